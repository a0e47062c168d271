-- What the checks of a PBN record answer. (01: From PBN; Eight refusals)
use Rattle.std.specs.Prelude.{Bool, ◌||◌, List, [], ◌∷◌, Option}
use Rattle.lin_spec.specs.Refusals.{Answer, refuse_if, unless, too_long, past_end, span_not_utf8}
use Rattle.lin_spec.specs.Pbn.{Pbn, bad_pbn, pbn_spans}
use Rattle.lin_spec.specs.declared.Refusal.{Refusal}
use Rattle.lin_spec.specs.declared.Refusal.TheVariants.{OutOfRange}

-- the checks that need no output: 1, 8, 5 and 6
unfoldable pub pbn_checks : (other : Bool) → Pbn → List (Option Refusal)
pbn_checks other x = too_long x.text ∷ refuse_if (other || bad_pbn x) OutOfRange ∷ past_end x.text (pbn_spans x) ∷ span_not_utf8 x.text (pbn_spans x) ∷ []

abbrev pub record_checked : (other : Bool) → Pbn → Answer Unit
record_checked other x = unless (pbn_checks other x) tt
