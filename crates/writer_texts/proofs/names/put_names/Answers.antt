-- `writer_texts::put_names` meets its contract: a run of puts, each of which takes one piece off what is left to write.
-- what is left to write after k of the puts
use lib.ListN.{drop}
use Rattle.output.specs.Put.{joined}
use Rattle.output.proofs.Laws.{Left, start, roomy, step, finish}
use Rattle.writer_texts.specs.Texts.{names_pieces, names_text}
use Rattle.writer_texts.proofs.TextLaws.{names-is}
use borrow.Author.Rules.{rules}
use Rattle.writer_texts.proofs.names.put_names.Goals as goal

pub put_name-a-requires : goal.put_name-a-requires
put_name-a-requires c =
    let after-0 : (Left c.args.out.now c.args.at (joined (drop 0 (names_pieces c.args.marks.pipe c.args.marks.line c.args.text.now c.args.names))) c.args.out.now c.args.at (names_text c.args.marks.pipe c.args.marks.line c.args.text.now c.args.names)) = rw (← names-is c.args.marks.pipe c.args.marks.line c.args.text.now c.args.names (search rules)) (start c.requires) in
    roomy _ _ (after-0)

pub put-b-requires : goal.put-b-requires
put-b-requires c =
    let after-0 : (Left c.args.out.now c.args.at (joined (drop 0 (names_pieces c.args.marks.pipe c.args.marks.line c.args.text.now c.args.names))) c.args.out.now c.args.at (names_text c.args.marks.pipe c.args.marks.line c.args.text.now c.args.names)) = rw (← names-is c.args.marks.pipe c.args.marks.line c.args.text.now c.args.names (search rules)) (start c.requires) in
    let after-1 : (Left c.put_name-a.new.out c.put_name-a.result (joined (drop 1 (names_pieces c.args.marks.pipe c.args.marks.line c.args.text.now c.args.names))) c.args.out.now c.args.at (names_text c.args.marks.pipe c.args.marks.line c.args.text.now c.args.names)) = step (after-0) c.put_name-a.ensures in
    roomy _ _ (after-1)

pub put_name-c-requires : goal.put_name-c-requires
put_name-c-requires c =
    let after-0 : (Left c.args.out.now c.args.at (joined (drop 0 (names_pieces c.args.marks.pipe c.args.marks.line c.args.text.now c.args.names))) c.args.out.now c.args.at (names_text c.args.marks.pipe c.args.marks.line c.args.text.now c.args.names)) = rw (← names-is c.args.marks.pipe c.args.marks.line c.args.text.now c.args.names (search rules)) (start c.requires) in
    let after-1 : (Left c.put_name-a.new.out c.put_name-a.result (joined (drop 1 (names_pieces c.args.marks.pipe c.args.marks.line c.args.text.now c.args.names))) c.args.out.now c.args.at (names_text c.args.marks.pipe c.args.marks.line c.args.text.now c.args.names)) = step (after-0) c.put_name-a.ensures in
    let after-2 : (Left c.put-b.new.out c.put-b.result (joined (drop 2 (names_pieces c.args.marks.pipe c.args.marks.line c.args.text.now c.args.names))) c.args.out.now c.args.at (names_text c.args.marks.pipe c.args.marks.line c.args.text.now c.args.names)) = step (after-1) c.put-b.ensures in
    roomy _ _ (after-2)

pub put-d-requires : goal.put-d-requires
put-d-requires c =
    let after-0 : (Left c.args.out.now c.args.at (joined (drop 0 (names_pieces c.args.marks.pipe c.args.marks.line c.args.text.now c.args.names))) c.args.out.now c.args.at (names_text c.args.marks.pipe c.args.marks.line c.args.text.now c.args.names)) = rw (← names-is c.args.marks.pipe c.args.marks.line c.args.text.now c.args.names (search rules)) (start c.requires) in
    let after-1 : (Left c.put_name-a.new.out c.put_name-a.result (joined (drop 1 (names_pieces c.args.marks.pipe c.args.marks.line c.args.text.now c.args.names))) c.args.out.now c.args.at (names_text c.args.marks.pipe c.args.marks.line c.args.text.now c.args.names)) = step (after-0) c.put_name-a.ensures in
    let after-2 : (Left c.put-b.new.out c.put-b.result (joined (drop 2 (names_pieces c.args.marks.pipe c.args.marks.line c.args.text.now c.args.names))) c.args.out.now c.args.at (names_text c.args.marks.pipe c.args.marks.line c.args.text.now c.args.names)) = step (after-1) c.put-b.ensures in
    let after-3 : (Left c.put_name-c.new.out c.put_name-c.result (joined (drop 3 (names_pieces c.args.marks.pipe c.args.marks.line c.args.text.now c.args.names))) c.args.out.now c.args.at (names_text c.args.marks.pipe c.args.marks.line c.args.text.now c.args.names)) = step (after-2) c.put_name-c.ensures in
    roomy _ _ (after-3)

pub put_name-e-requires : goal.put_name-e-requires
put_name-e-requires c =
    let after-0 : (Left c.args.out.now c.args.at (joined (drop 0 (names_pieces c.args.marks.pipe c.args.marks.line c.args.text.now c.args.names))) c.args.out.now c.args.at (names_text c.args.marks.pipe c.args.marks.line c.args.text.now c.args.names)) = rw (← names-is c.args.marks.pipe c.args.marks.line c.args.text.now c.args.names (search rules)) (start c.requires) in
    let after-1 : (Left c.put_name-a.new.out c.put_name-a.result (joined (drop 1 (names_pieces c.args.marks.pipe c.args.marks.line c.args.text.now c.args.names))) c.args.out.now c.args.at (names_text c.args.marks.pipe c.args.marks.line c.args.text.now c.args.names)) = step (after-0) c.put_name-a.ensures in
    let after-2 : (Left c.put-b.new.out c.put-b.result (joined (drop 2 (names_pieces c.args.marks.pipe c.args.marks.line c.args.text.now c.args.names))) c.args.out.now c.args.at (names_text c.args.marks.pipe c.args.marks.line c.args.text.now c.args.names)) = step (after-1) c.put-b.ensures in
    let after-3 : (Left c.put_name-c.new.out c.put_name-c.result (joined (drop 3 (names_pieces c.args.marks.pipe c.args.marks.line c.args.text.now c.args.names))) c.args.out.now c.args.at (names_text c.args.marks.pipe c.args.marks.line c.args.text.now c.args.names)) = step (after-2) c.put_name-c.ensures in
    let after-4 : (Left c.put-d.new.out c.put-d.result (joined (drop 4 (names_pieces c.args.marks.pipe c.args.marks.line c.args.text.now c.args.names))) c.args.out.now c.args.at (names_text c.args.marks.pipe c.args.marks.line c.args.text.now c.args.names)) = step (after-3) c.put-d.ensures in
    roomy _ _ (after-4)

pub put-f-requires : goal.put-f-requires
put-f-requires c =
    let after-0 : (Left c.args.out.now c.args.at (joined (drop 0 (names_pieces c.args.marks.pipe c.args.marks.line c.args.text.now c.args.names))) c.args.out.now c.args.at (names_text c.args.marks.pipe c.args.marks.line c.args.text.now c.args.names)) = rw (← names-is c.args.marks.pipe c.args.marks.line c.args.text.now c.args.names (search rules)) (start c.requires) in
    let after-1 : (Left c.put_name-a.new.out c.put_name-a.result (joined (drop 1 (names_pieces c.args.marks.pipe c.args.marks.line c.args.text.now c.args.names))) c.args.out.now c.args.at (names_text c.args.marks.pipe c.args.marks.line c.args.text.now c.args.names)) = step (after-0) c.put_name-a.ensures in
    let after-2 : (Left c.put-b.new.out c.put-b.result (joined (drop 2 (names_pieces c.args.marks.pipe c.args.marks.line c.args.text.now c.args.names))) c.args.out.now c.args.at (names_text c.args.marks.pipe c.args.marks.line c.args.text.now c.args.names)) = step (after-1) c.put-b.ensures in
    let after-3 : (Left c.put_name-c.new.out c.put_name-c.result (joined (drop 3 (names_pieces c.args.marks.pipe c.args.marks.line c.args.text.now c.args.names))) c.args.out.now c.args.at (names_text c.args.marks.pipe c.args.marks.line c.args.text.now c.args.names)) = step (after-2) c.put_name-c.ensures in
    let after-4 : (Left c.put-d.new.out c.put-d.result (joined (drop 4 (names_pieces c.args.marks.pipe c.args.marks.line c.args.text.now c.args.names))) c.args.out.now c.args.at (names_text c.args.marks.pipe c.args.marks.line c.args.text.now c.args.names)) = step (after-3) c.put-d.ensures in
    let after-5 : (Left c.put_name-e.new.out c.put_name-e.result (joined (drop 5 (names_pieces c.args.marks.pipe c.args.marks.line c.args.text.now c.args.names))) c.args.out.now c.args.at (names_text c.args.marks.pipe c.args.marks.line c.args.text.now c.args.names)) = step (after-4) c.put_name-e.ensures in
    roomy _ _ (after-5)

pub put_name-requires : goal.put_name-requires
put_name-requires c =
    let after-0 : (Left c.args.out.now c.args.at (joined (drop 0 (names_pieces c.args.marks.pipe c.args.marks.line c.args.text.now c.args.names))) c.args.out.now c.args.at (names_text c.args.marks.pipe c.args.marks.line c.args.text.now c.args.names)) = rw (← names-is c.args.marks.pipe c.args.marks.line c.args.text.now c.args.names (search rules)) (start c.requires) in
    let after-1 : (Left c.put_name-a.new.out c.put_name-a.result (joined (drop 1 (names_pieces c.args.marks.pipe c.args.marks.line c.args.text.now c.args.names))) c.args.out.now c.args.at (names_text c.args.marks.pipe c.args.marks.line c.args.text.now c.args.names)) = step (after-0) c.put_name-a.ensures in
    let after-2 : (Left c.put-b.new.out c.put-b.result (joined (drop 2 (names_pieces c.args.marks.pipe c.args.marks.line c.args.text.now c.args.names))) c.args.out.now c.args.at (names_text c.args.marks.pipe c.args.marks.line c.args.text.now c.args.names)) = step (after-1) c.put-b.ensures in
    let after-3 : (Left c.put_name-c.new.out c.put_name-c.result (joined (drop 3 (names_pieces c.args.marks.pipe c.args.marks.line c.args.text.now c.args.names))) c.args.out.now c.args.at (names_text c.args.marks.pipe c.args.marks.line c.args.text.now c.args.names)) = step (after-2) c.put_name-c.ensures in
    let after-4 : (Left c.put-d.new.out c.put-d.result (joined (drop 4 (names_pieces c.args.marks.pipe c.args.marks.line c.args.text.now c.args.names))) c.args.out.now c.args.at (names_text c.args.marks.pipe c.args.marks.line c.args.text.now c.args.names)) = step (after-3) c.put-d.ensures in
    let after-5 : (Left c.put_name-e.new.out c.put_name-e.result (joined (drop 5 (names_pieces c.args.marks.pipe c.args.marks.line c.args.text.now c.args.names))) c.args.out.now c.args.at (names_text c.args.marks.pipe c.args.marks.line c.args.text.now c.args.names)) = step (after-4) c.put_name-e.ensures in
    let after-6 : (Left c.put-f.new.out c.put-f.result (joined (drop 6 (names_pieces c.args.marks.pipe c.args.marks.line c.args.text.now c.args.names))) c.args.out.now c.args.at (names_text c.args.marks.pipe c.args.marks.line c.args.text.now c.args.names)) = step (after-5) c.put-f.ensures in
    roomy _ _ (after-6)

pub returns : goal.returns
returns c =
    let after-0 : (Left c.args.out.now c.args.at (joined (drop 0 (names_pieces c.args.marks.pipe c.args.marks.line c.args.text.now c.args.names))) c.args.out.now c.args.at (names_text c.args.marks.pipe c.args.marks.line c.args.text.now c.args.names)) = rw (← names-is c.args.marks.pipe c.args.marks.line c.args.text.now c.args.names (search rules)) (start c.requires) in
    let after-1 : (Left c.put_name-a.new.out c.put_name-a.result (joined (drop 1 (names_pieces c.args.marks.pipe c.args.marks.line c.args.text.now c.args.names))) c.args.out.now c.args.at (names_text c.args.marks.pipe c.args.marks.line c.args.text.now c.args.names)) = step (after-0) c.put_name-a.ensures in
    let after-2 : (Left c.put-b.new.out c.put-b.result (joined (drop 2 (names_pieces c.args.marks.pipe c.args.marks.line c.args.text.now c.args.names))) c.args.out.now c.args.at (names_text c.args.marks.pipe c.args.marks.line c.args.text.now c.args.names)) = step (after-1) c.put-b.ensures in
    let after-3 : (Left c.put_name-c.new.out c.put_name-c.result (joined (drop 3 (names_pieces c.args.marks.pipe c.args.marks.line c.args.text.now c.args.names))) c.args.out.now c.args.at (names_text c.args.marks.pipe c.args.marks.line c.args.text.now c.args.names)) = step (after-2) c.put_name-c.ensures in
    let after-4 : (Left c.put-d.new.out c.put-d.result (joined (drop 4 (names_pieces c.args.marks.pipe c.args.marks.line c.args.text.now c.args.names))) c.args.out.now c.args.at (names_text c.args.marks.pipe c.args.marks.line c.args.text.now c.args.names)) = step (after-3) c.put-d.ensures in
    let after-5 : (Left c.put_name-e.new.out c.put_name-e.result (joined (drop 5 (names_pieces c.args.marks.pipe c.args.marks.line c.args.text.now c.args.names))) c.args.out.now c.args.at (names_text c.args.marks.pipe c.args.marks.line c.args.text.now c.args.names)) = step (after-4) c.put_name-e.ensures in
    let after-6 : (Left c.put-f.new.out c.put-f.result (joined (drop 6 (names_pieces c.args.marks.pipe c.args.marks.line c.args.text.now c.args.names))) c.args.out.now c.args.at (names_text c.args.marks.pipe c.args.marks.line c.args.text.now c.args.names)) = step (after-5) c.put-f.ensures in
    let after-7 : (Left c.put_name.new.out c.put_name.result (joined (drop 7 (names_pieces c.args.marks.pipe c.args.marks.line c.args.text.now c.args.names))) c.args.out.now c.args.at (names_text c.args.marks.pipe c.args.marks.line c.args.text.now c.args.names)) = step (after-6) c.put_name.ensures in
    finish (after-7)
