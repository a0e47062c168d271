-- `pbn_texts::put_texts` meets its contract: two puts, the second cleaned where it stands.
-- the names, and the texts after them
use mathlib.Core.List.{◌++◌}
use Rattle.lin_spec.specs.Writer.{clean}
use Rattle.output.specs.Put.{Room}
use Rattle.pbn_texts.specs.Names.{pbn_names_text}
use Rattle.pbn_texts.specs.Raw.{raw_text, texts_of}
use Rattle.pbn_texts.proofs.RawLaws.{first_fits, second_fits, second-ends, cleaned_put}
use Rattle.pbn_texts.proofs.raw.put_texts.Goals as goal

pub put_pbn_names-a-requires : goal.put_pbn_names-a-requires
put_pbn_names-a-requires c =
    let fits : Room c.args.out.now 0 ((pbn_names_text c.args.marks.pipe c.args.marks.line c.args.text.now c.args.names) ++ clean c.args.marks.pipe c.args.marks.line ((raw_text c.args.text.now c.args.sources c.args.notes.now c.args.calls.now))) = unfold texts_of in c.requires.0 in
    first_fits c.args.marks.pipe c.args.marks.line ((pbn_names_text c.args.marks.pipe c.args.marks.line c.args.text.now c.args.names)) ((raw_text c.args.text.now c.args.sources c.args.notes.now c.args.calls.now)) (fits)

pub put_raw-b-requires : goal.put_raw-b-requires
put_raw-b-requires c =
    let fits : Room c.args.out.now 0 ((pbn_names_text c.args.marks.pipe c.args.marks.line c.args.text.now c.args.names) ++ clean c.args.marks.pipe c.args.marks.line ((raw_text c.args.text.now c.args.sources c.args.notes.now c.args.calls.now))) = unfold texts_of in c.requires.0 in
    (second_fits c.args.marks.pipe c.args.marks.line ((pbn_names_text c.args.marks.pipe c.args.marks.line c.args.text.now c.args.names)) ((raw_text c.args.text.now c.args.sources c.args.notes.now c.args.calls.now)) (fits) c.put_pbn_names-a.ensures, c.requires.1)

pub clean_part-requires : goal.clean_part-requires
clean_part-requires c =
    let fits : Room c.args.out.now 0 ((pbn_names_text c.args.marks.pipe c.args.marks.line c.args.text.now c.args.names) ++ clean c.args.marks.pipe c.args.marks.line ((raw_text c.args.text.now c.args.sources c.args.notes.now c.args.calls.now))) = unfold texts_of in c.requires.0 in
    second-ends c.args.marks.pipe c.args.marks.line ((pbn_names_text c.args.marks.pipe c.args.marks.line c.args.text.now c.args.names)) ((raw_text c.args.text.now c.args.sources c.args.notes.now c.args.calls.now)) (fits) c.put_pbn_names-a.ensures c.put_raw-b.ensures

pub returns : goal.returns
unfolding texts_of
returns c =
    let fits : Room c.args.out.now 0 ((pbn_names_text c.args.marks.pipe c.args.marks.line c.args.text.now c.args.names) ++ clean c.args.marks.pipe c.args.marks.line ((raw_text c.args.text.now c.args.sources c.args.notes.now c.args.calls.now))) = unfold texts_of in c.requires.0 in
    cleaned_put c.args.marks.pipe c.args.marks.line ((pbn_names_text c.args.marks.pipe c.args.marks.line c.args.text.now c.args.names)) ((raw_text c.args.text.now c.args.sources c.args.notes.now c.args.calls.now)) (fits) c.put_pbn_names-a.ensures c.put_raw-b.ensures _ c.clean_part.ensures
