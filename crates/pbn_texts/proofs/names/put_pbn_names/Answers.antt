-- `pbn_texts::put_pbn_names` meets its contract: a run of puts, each of which takes one piece off what is left to write.
-- what is left to write after k of the puts
use lib.ListN.{drop}
use borrow.Author.Rules.{rules}
use Rattle.output.specs.Put.{joined}
use Rattle.output.proofs.Laws.{Left, start, roomy, step, finish}
use Rattle.pbn_texts.specs.Names.{pbn_names_pieces, pbn_names_text}
use Rattle.pbn_texts.proofs.NameLaws.{names-are}
use Rattle.pbn_texts.proofs.names.put_pbn_names.Goals as goal

pub put_one-a-requires : goal.put_one-a-requires
put_one-a-requires c =
    let after-0 : (Left c.args.out.now c.args.at (joined (drop 0 (pbn_names_pieces c.args.marks.pipe c.args.marks.line c.args.text.now c.args.names))) c.args.out.now c.args.at (pbn_names_text c.args.marks.pipe c.args.marks.line c.args.text.now c.args.names)) = rw (← names-are c.args.marks.pipe c.args.marks.line c.args.text.now c.args.names (search rules)) (start c.requires) in
    roomy _ _ (after-0)

pub put_one-b-requires : goal.put_one-b-requires
put_one-b-requires c =
    let after-0 : (Left c.args.out.now c.args.at (joined (drop 0 (pbn_names_pieces c.args.marks.pipe c.args.marks.line c.args.text.now c.args.names))) c.args.out.now c.args.at (pbn_names_text c.args.marks.pipe c.args.marks.line c.args.text.now c.args.names)) = rw (← names-are c.args.marks.pipe c.args.marks.line c.args.text.now c.args.names (search rules)) (start c.requires) in
    let after-1 : (Left c.put_one-a.new.out c.put_one-a.result (joined (drop 1 (pbn_names_pieces c.args.marks.pipe c.args.marks.line c.args.text.now c.args.names))) c.args.out.now c.args.at (pbn_names_text c.args.marks.pipe c.args.marks.line c.args.text.now c.args.names)) = step (after-0) c.put_one-a.ensures in
    roomy _ _ (after-1)

pub put_one-c-requires : goal.put_one-c-requires
put_one-c-requires c =
    let after-0 : (Left c.args.out.now c.args.at (joined (drop 0 (pbn_names_pieces c.args.marks.pipe c.args.marks.line c.args.text.now c.args.names))) c.args.out.now c.args.at (pbn_names_text c.args.marks.pipe c.args.marks.line c.args.text.now c.args.names)) = rw (← names-are c.args.marks.pipe c.args.marks.line c.args.text.now c.args.names (search rules)) (start c.requires) in
    let after-1 : (Left c.put_one-a.new.out c.put_one-a.result (joined (drop 1 (pbn_names_pieces c.args.marks.pipe c.args.marks.line c.args.text.now c.args.names))) c.args.out.now c.args.at (pbn_names_text c.args.marks.pipe c.args.marks.line c.args.text.now c.args.names)) = step (after-0) c.put_one-a.ensures in
    let after-2 : (Left c.put_one-b.new.out c.put_one-b.result (joined (drop 2 (pbn_names_pieces c.args.marks.pipe c.args.marks.line c.args.text.now c.args.names))) c.args.out.now c.args.at (pbn_names_text c.args.marks.pipe c.args.marks.line c.args.text.now c.args.names)) = step (after-1) c.put_one-b.ensures in
    roomy _ _ (after-2)

pub put_one-requires : goal.put_one-requires
put_one-requires c =
    let after-0 : (Left c.args.out.now c.args.at (joined (drop 0 (pbn_names_pieces c.args.marks.pipe c.args.marks.line c.args.text.now c.args.names))) c.args.out.now c.args.at (pbn_names_text c.args.marks.pipe c.args.marks.line c.args.text.now c.args.names)) = rw (← names-are c.args.marks.pipe c.args.marks.line c.args.text.now c.args.names (search rules)) (start c.requires) in
    let after-1 : (Left c.put_one-a.new.out c.put_one-a.result (joined (drop 1 (pbn_names_pieces c.args.marks.pipe c.args.marks.line c.args.text.now c.args.names))) c.args.out.now c.args.at (pbn_names_text c.args.marks.pipe c.args.marks.line c.args.text.now c.args.names)) = step (after-0) c.put_one-a.ensures in
    let after-2 : (Left c.put_one-b.new.out c.put_one-b.result (joined (drop 2 (pbn_names_pieces c.args.marks.pipe c.args.marks.line c.args.text.now c.args.names))) c.args.out.now c.args.at (pbn_names_text c.args.marks.pipe c.args.marks.line c.args.text.now c.args.names)) = step (after-1) c.put_one-b.ensures in
    let after-3 : (Left c.put_one-c.new.out c.put_one-c.result (joined (drop 3 (pbn_names_pieces c.args.marks.pipe c.args.marks.line c.args.text.now c.args.names))) c.args.out.now c.args.at (pbn_names_text c.args.marks.pipe c.args.marks.line c.args.text.now c.args.names)) = step (after-2) c.put_one-c.ensures in
    roomy _ _ (after-3)

pub returns : goal.returns
returns c =
    let after-0 : (Left c.args.out.now c.args.at (joined (drop 0 (pbn_names_pieces c.args.marks.pipe c.args.marks.line c.args.text.now c.args.names))) c.args.out.now c.args.at (pbn_names_text c.args.marks.pipe c.args.marks.line c.args.text.now c.args.names)) = rw (← names-are c.args.marks.pipe c.args.marks.line c.args.text.now c.args.names (search rules)) (start c.requires) in
    let after-1 : (Left c.put_one-a.new.out c.put_one-a.result (joined (drop 1 (pbn_names_pieces c.args.marks.pipe c.args.marks.line c.args.text.now c.args.names))) c.args.out.now c.args.at (pbn_names_text c.args.marks.pipe c.args.marks.line c.args.text.now c.args.names)) = step (after-0) c.put_one-a.ensures in
    let after-2 : (Left c.put_one-b.new.out c.put_one-b.result (joined (drop 2 (pbn_names_pieces c.args.marks.pipe c.args.marks.line c.args.text.now c.args.names))) c.args.out.now c.args.at (pbn_names_text c.args.marks.pipe c.args.marks.line c.args.text.now c.args.names)) = step (after-1) c.put_one-b.ensures in
    let after-3 : (Left c.put_one-c.new.out c.put_one-c.result (joined (drop 3 (pbn_names_pieces c.args.marks.pipe c.args.marks.line c.args.text.now c.args.names))) c.args.out.now c.args.at (pbn_names_text c.args.marks.pipe c.args.marks.line c.args.text.now c.args.names)) = step (after-2) c.put_one-c.ensures in
    let after-4 : (Left c.put_one.new.out c.put_one.result (joined (drop 4 (pbn_names_pieces c.args.marks.pipe c.args.marks.line c.args.text.now c.args.names))) c.args.out.now c.args.at (pbn_names_text c.args.marks.pipe c.args.marks.line c.args.text.now c.args.names)) = step (after-3) c.put_one.ensures in
    finish (after-4)
