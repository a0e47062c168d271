-- Laws of the name finder: the seats of a board, a section with the name, the boards counted, and the entry. (01: names; 02: N3)
-- Assumes nothing.
use Rattle.std.specs.Prelude.{Err, Ok}
use Prim.Native.Nat.{ℕ, ◌+◌, ◌^◌, ◌≤◌, ◌<◌}
use native.Mathlib.Omega.{arith}
use mathlib.Core.Path.{◌≡◌, refl, ap, sym, subst, ◌∙◌}
use mathlib.Core.Bool.{Bool, true, false, ◌&&◌, not, false≢true}
use mathlib.Core.List.{List, [], ◌∷◌, map}
use lib.ListN.{length, take, drop, get_or}
use borrow.Author.Tests.{lt-ltb, le-ltb}
use Rattle.text.proofs.ListLaws.{any-end, any_found, any_next}
use Rattle.lin_spec.specs.Base.{pick, All, any, keep, count_if, concat, ascii}
use Rattle.lin_spec.specs.Records.{limit, end_of, span, bytes_at}
use Rattle.lin_spec.specs.Utf8.{utf8, longest}
use Rattle.lin_spec.specs.Refusals.{Answer, unless, too_small, sat}
use Rattle.lin_spec.specs.Reading.{stream}
use Rattle.lin_spec.specs.Board.{BoardOf}
use Rattle.lin_spec.specs.File.{Section as Part, holds, Standing, sections, boards_of, board_in, file_spans, remaining}
use Rattle.lin_spec.specs.declared.Span.{Span}
use Rattle.lin_spec.specs.declared.Refusal.TheVariants.{TextTooLong, NotUtf8, OutputTooSmall}
use Rattle.lin_spec.proofs.Base.{picked, all-at}
use Rattle.lin_spec.proofs.Utf8.{short, whole-text}
use Rattle.lin_spec.proofs.Accepted.{all_left, all_right}
use Rattle.lin_spec.proofs.Lendable.{Legal, boards_legal}
use Rattle.lin_spec.proofs.File.{Found, all_remain}
use Rattle.board_loop.specs.Head.{board_at}
use Rattle.accents.specs.Table.{mapping_table}
use Rattle.accents.specs.Lines.{table_words}
use Rattle.accents.specs.Names.{same_name, places}
use Rattle.accents.proofs.NameLaws.{places_most}
use Rattle.accents_names.specs.Work.{Fillable, Known, Laid, Comparable}
use Rattle.accents_names.specs.declared.names.Sought.{Sought}
use Rattle.file_sections.specs.Sections.{section_of, standing_of, AtFirst}
use Rattle.file_sections.specs.declared.sections.Section.{Section}
use Rattle.file_sections.specs.declared.sections.BoardCursor.{BoardCursor}
use Rattle.file_sections.proofs.WayLaws.{Way, way_begin, number-board, number-other, way_on}
use Rattle.file_finder.specs.Finder.{has_name, places_in, most_places, places_needed, find_name, WorkAfter, Finds}
use Rattle.file_finder.specs.Walk.{RoomIs, NameFits, BoardFits, Looking, FoundIn, FindsChecked}
use Rattle.file_finder.proofs.MeasureLaws.{shown_small, greatest-room, sum-small}

-- The seats of a board

-- the test of a seat
abbrev pub is_at : (s name : List ℕ) → Span → Bool
is_at s name x = same_name (bytes_at s x) name

-- none of the first i is the name, which still stands in the work space o, as long as o₀
pub record Seats (w s name : List ℕ) (k : Sought) (names : List Span) (o₀ o : List ℕ) (i : ℕ) : Type 0 where
  pub none : any (is_at s name) (drop i names) ≡ any (is_at s name) names
  pub looking : Looking w name k o
  pub long : length o ≡ length o₀
  pub four : length names ≡ 4

pub looking_on : (w name : List ℕ) (k : Sought) (o o' : List ℕ) → Looking w name k o → Laid name k o' → Looking w name k o'
looking_on w name k o o' h l = record { copied = h.copied; well = h.well; laid = l }

module _ (w s name : List ℕ) (k : Sought) (names : List Span) (o₀ o : List ℕ) (i : ℕ) (t : Seats w s name k names o₀ o i) where
  pub seat_fits : length s < 2 ^ 32 → All (NameFits s name (length o₀)) names → i < 4 → (d : Span) (x : List ℕ) → x ≡ bytes_at s (get_or names i d) → Comparable w x name k o
  seat_fits l h j d x e =
      let f = all-at (NameFits s name (length o₀)) names i d h (omega (arith, t.four, j)) in
      record {
        copied = t.looking.copied;
        short = shown_small s (get_or names i d) x e l;
        first = ap utf8 e ∙ f.0;
        second = t.looking.well;
        laid = t.looking.laid;
        room = subst (λ (y : List ℕ). places name + places y ≤ length o) (sym e) (omega (arith, f.1, t.long));
      }

  module _ (j : i < 4) (d : Span) (x : List ℕ) (e : x ≡ bytes_at s (get_or names i d)) (r : Bool) (q : r ≡ same_name x name) where
    is : r ≡ is_at s name (get_or names i d)
    is = q ∙ ap (λ (y : List ℕ). same_name y name) e

    pub seat_found : r ≡ true → true ≡ any (is_at s name) names
    seat_found h = any_found (is_at s name) d names i t.none (omega (arith, t.four, j)) r is h

    pub seat_next : r ≡ false → (o' : List ℕ) → Laid name k o' → length o' ≡ length o → Seats w s name k names o₀ o' (i + 1)
    seat_next h o' l m = record {
      none = any_next (is_at s name) d names i t.none (omega (arith, t.four, j)) r is h;
      looking = looking_on w name k o o' t.looking l;
      long = m ∙ t.long;
      four = t.four;
    }

  pub seats_end : 4 ≤ i → false ≡ any (is_at s name) names
  seats_end h = any-end (is_at s name) (span 0 0) names i t.none (omega (arith, t.four, h))

-- One section

module _ (s name : List ℕ) (p : Section) where
  pub found_none : not p.board ≡ true → FoundIn s name p 0
  found_none h = go p.board refl h
    where
      go : (t : Bool) → p.board ≡ t → not t ≡ true → FoundIn s name p 0
      go true e k = absurd (false≢true k)
      go false e k = ap (λ (u : Bool). pick (u && has_name s name (board_in s (section_of p))) 1 0) (sym e)

  module _ (h : not p.board ≡ false) where
    pub is-board : p.board ≡ true
    is-board = go p.board h
      where
        go : (t : Bool) → not t ≡ false → t ≡ true
        go true k = refl
        go false k = absurd (false≢true (sym k))

    module _ (names : List Span) (n : names ≡ (board_at (take p.stop s) p.start).names) where
      -- what is asked of the names of a board is asked of those that were read
      pub names-fit : (m : ℕ) → (p.board ≡ true → All (NameFits s name m) (board_in s (section_of p)).names) → All (NameFits s name m) names
      unfolding board_in
      names-fit m f = rw n (f is-board)

      module _ (t : Bool) (e : t ≡ any (is_at s name) names) where
        has-is : (p.board && has_name s name (board_in s (section_of p))) ≡ t
        unfolding board_in
        has-is = ap (λ (x : Bool). x && has_name s name (board_in s (section_of p))) is-board ∙ sym (e ∙ ap (any (is_at s name)) n)

        pub found_some : t ≡ true → FoundIn s name p 1
        found_some q = simp (has-is, q)

        pub found-other : t ≡ false → FoundIn s name p 0
        found-other q = simp (has-is, q)

-- The boards counted so far, and those that remain

abbrev left : (s : List ℕ) → Standing → List (BoardOf Span)
left s c = map (board_in s) (boards_of (remaining s c))

-- the name still stands in the work space o, as long as o₀, and the names of the boards that remain can be compared with it
pub record Tally (w s name : List ℕ) (k : Sought) (o₀ o : List ℕ) (count : ℕ) (c : Standing) : Type 0 where
  pub way : Way s c
  pub all : count + count_if (has_name s name) (left s c) ≡ count_if (has_name s name) (file_spans s)
  pub most : count ≤ c.number
  pub fits : All (BoardFits s name (length o₀)) (left s c)
  pub looking : Looking w name k o
  pub long : length o ≡ length o₀

pub tally_begin : (w s name : List ℕ) (k : Sought) (o : List ℕ) (c : BoardCursor) → Looking w name k o → AtFirst s c → All (BoardFits s name (length o)) (file_spans s) → Tally w s name k o o 0 (standing_of c)
unfolding file_spans
tally_begin w s name k o c l r f =
    let e : left s (standing_of c) ≡ map (board_in s) (boards_of (sections s)) = ap (λ (ps : List Part). map (board_in s) (boards_of ps)) (ap (remaining s) r.first ∙ all_remain s) in
    let a = ap (count_if (has_name s name)) e in
    record { way = way_begin s c r; all = omega (arith, a); most = omega arith; fits = subst (All (BoardFits s name (length o))) (sym e) f; looking = l; long = refl }

module _ (w s name : List ℕ) (k : Sought) (o₀ o : List ℕ) (n : ℕ) (c : Standing) (t : Tally w s name k o₀ o n c) where
  pub tally_end : remaining s c ≡ [] → n ≡ count_if (has_name s name) (file_spans s)
  unfolding keep
  tally_end e = (let a : n ≡ n + count_if (has_name s name) (left s c) = rw e (omega arith) in a) ∙ t.all

  module _ (m : ℕ) (p : Section) (d : Standing) (f : Found s c m (section_of p) d) where
    front : left s c ≡ pick p.board (board_in s (section_of p) ∷ left s d) (left s d)
    unfolding keep
    front =
        ap (λ (ps : List Part). map (board_in s) (boards_of ps)) f.front
        ∙ picked (λ (ps : List Part). map (board_in s) ps ≡ pick p.board (board_in s (section_of p) ∷ left s d) (left s d)) p.board
        (λ b. ap (λ (u : Bool). pick u (board_in s (section_of p) ∷ left s d) (left s d)) (sym b))
        (λ b. ap (λ (u : Bool). pick u (board_in s (section_of p) ∷ left s d) (left s d)) (sym b))

    -- at a board, and at another section
    front-board : p.board ≡ true → left s c ≡ board_in s (section_of p) ∷ left s d
    front-board b = front ∙ ap (λ (u : Bool). pick u (board_in s (section_of p) ∷ left s d) (left s d)) b

    front-other : p.board ≡ false → left s c ≡ left s d
    front-other b = front ∙ ap (λ (u : Bool). pick u (board_in s (section_of p) ∷ left s d) (left s d)) b

    pub section_fits : p.board ≡ true → All (NameFits s name (length o)) (board_in s (section_of p)).names
    section_fits b = rw t.long (subst (All (BoardFits s name (length o₀))) (front-board b) t.fits).0

    module _ (r : ℕ) (e : FoundIn s name p r) where
      at-board : p.board ≡ true → r ≡ pick (has_name s name (board_in s (section_of p))) 1 0
      at-board q = e ∙ ap (λ (x : Bool). pick (x && has_name s name (board_in s (section_of p))) 1 0) q

      at_other : p.board ≡ false → r ≡ 0
      at_other q = e ∙ ap (λ (x : Bool). pick (x && has_name s name (board_in s (section_of p))) 1 0) q

      pub tally_small : (r ≤ 1) × (n + r < 2 ^ 32)
      tally_small =
          let k : r ≤ 1 = rw e (picked (λ (x : ℕ). x ≤ 1) (p.board && has_name s name (board_in s (section_of p))) (λ _. omega arith) (λ _. omega arith)) in
          (k, omega (arith, t.way.short, t.way.small, t.way.within, t.most))

      module _ (o' : List ℕ) (l : Looking w name k o') (g : length o' ≡ length o) where
        pub tally_on : Tally w s name k o₀ o' (n + r) d
        unfolding keep
        tally_on = go p.board refl
          where
            counted : p.board ≡ true → count_if (has_name s name) (left s c) ≡ r + count_if (has_name s name) (left s d)
            counted b =
                ap (count_if (has_name s name)) (front-board b)
                ∙ picked (λ (bs : List (BoardOf Span)). length bs ≡ r + count_if (has_name s name) (left s d)) (has_name s name (board_in s (section_of p)))
                (λ h. let y : r ≡ 1 = at-board b ∙ simp h in omega (arith, y))
                (λ h. let y : r ≡ 0 = at-board b ∙ simp h in omega (arith, y))

            go : (u : Bool) → p.board ≡ u → Tally w s name k o₀ o' (n + r) d
            go true b = record {
              way = way_on s c t.way m (section_of p) d f;
              all = omega (arith, t.all, counted b);
              most = omega (arith, t.most, tally_small.0, number-board s c t.way m (section_of p) d f b);
              fits = (subst (All (BoardFits s name (length o₀))) (front-board b) t.fits).1;
              looking = l;
              long = g ∙ t.long;
            }
            go false b = record {
              way = way_on s c t.way m (section_of p) d f;
              all = let q = ap (count_if (has_name s name)) (front-other b) in omega (arith, t.all, q, at_other b);
              most = omega (arith, t.most, at_other b, number-other s c t.way m (section_of p) d f b);
              fits = subst (All (BoardFits s name (length o₀))) (front-other b) t.fits;
              looking = l;
              long = g ∙ t.long;
            }

-- A call that 1 and 2 do not meet

pub first_ready : (s : List ℕ) → length s ≤ limit → (b : Bool) → b ≡ holds (ascii "qx") (stream s 0) → (c : BoardCursor) → c ≡ record { at = 0; number = 0; lines = not b } → AtFirst s c
first_ready s h b e c f = record { first = ap standing_of f ∙ ap (λ (x : Bool). record { at = 0; number = 0; lines = not x }) e; short = h }

pub sought_small : (name : List ℕ) (k : Sought) → Known name k → utf8 name ≡ true → length name ≤ limit → k.places < 2 ^ 32
sought_small name k h u l = omega (arith, h.places, places_most name u, l)

-- what is told of the room
pub room_told : (s : List ℕ) (n room : ℕ) (r v : Answer Unit) → RoomIs s n room r → r ≡ v → RoomIs s n room v
room_told s n room r v h e = subst (RoomIs s n room) e h

-- the names of each board fit, if the room is what is needed
each_list : (P : ℕ → Type 0) (xs : List (List ℕ)) → All P (concat xs) → All (All P) xs
unfolding concat
each_list P [] h = tt
each_list P (x ∷ xs) h = (all_left P x (concat xs) h, each_list P xs (all_right P x (concat xs) h))

module _ (s name : List ℕ) (n : ℕ) where
  names-fit-all : (xs : List Span) → All (λ (x : Span). (end_of x ≤ length s) × (utf8 (bytes_at s x) ≡ true)) xs → All (λ (k : ℕ). places name + k ≤ n) (map (λ (x : Span). places (bytes_at s x)) xs) → All (NameFits s name n) xs
  names-fit-all [] h k = tt
  names-fit-all (x ∷ xs) h k = ((h.0.1, k.0), names-fit-all xs h.1 k.1)

  boards-fit-all : (bs : List (BoardOf Span)) → All (Legal s) bs → All (All (λ (k : ℕ). places name + k ≤ n)) (map (places_in s) bs) → All (BoardFits s name n) bs
  unfolding places_in
  boards-fit-all [] h k = tt
  boards-fit-all (b ∷ bs) h k = (names-fit-all b.names h.0.texts.names k.0, boards-fit-all bs h.1 k.1)

  pub boards-fit : utf8 s ≡ true → places_needed s name ≤ n → All (BoardFits s name n) (file_spans s)
  unfolding most_places
  boards-fit u h =
      boards-fit-all (file_spans s) (boards_legal s u)
      (each_list (λ (k : ℕ). places name + k ≤ n) (map (places_in s) (file_spans s)) (greatest-room (places name) n (concat (map (places_in s) (file_spans s))) h))

module _ (s name w : List ℕ) (k : Sought) (h : Known name k) where
  -- 7
  pub checked-short : utf8 s ≡ true → length s ≤ limit → k.places < 2 ^ 32 → (n : ℕ) → n ≡ k.places + most_places s → length w < n → FindsChecked s name w (Err (OutputTooSmall n)) w
  unfolding unless
  checked-short u l b n e f =
      let m : n ≡ places_needed s name = e ∙ ap (λ (i : ℕ). i + most_places s) h.places in
      let z : sat n ≡ n = omega (arith, sum-small s k.places u l b, e) in
      record {
        answer = subst (λ (i : ℕ). Err (OutputTooSmall n) ≡ unless (too_small (length w) i ∷ []) (count_if (has_name s name) (file_spans s))) m (sym (simp (lt-ltb (length w) n f, z)));
        work = refl;
      }

  module _ (f : k.places + most_places s ≤ length w) where
    pub enough : places_needed s name ≤ length w
    enough = omega (arith, f, h.places)

    pub front_fits : (m : List ℕ) → m ≡ table_words mapping_table → length name ≤ limit → Fillable m name w 0
    unfolding places
    front_fits m e l = record { copied = e; short = omega (arith, l); room = record { room = omega (arith, f, h.places) } }

    pub checked-count : (n : ℕ) → n ≡ count_if (has_name s name) (file_spans s) → (v : List ℕ) → length v ≡ length w → FindsChecked s name w (Ok n) v
    unfolding unless
    checked-count n e v l = record { answer = sym (simp (le-ltb (length w) (places_needed s name) enough, e)); work = l }

-- The entry, by the tests that it made

module _ (s name w : List ℕ) where
  pub find-long : limit < length s → Finds s name w (Err TextTooLong) w
  unfolding find_name unless
  find-long h = record { answer = simp (lt-ltb limit (length s) h); work = refl }

  module _ (a : length s ≤ limit) where
    pub find_name_long : limit < length name → Finds s name w (Err TextTooLong) w
    unfolding find_name unless
    find_name_long h = record { answer = simp (le-ltb limit (length s) a, lt-ltb limit (length name) h); work = refl }

    module _ (b : length name ≤ limit) (n : ℕ) (f : n ≡ longest s) where
      pub find-ill : n < length s → Finds s name w (Err (NotUtf8 n)) w
      unfolding find_name unless
      find-ill h = record { answer = simp (le-ltb limit (length s) a, le-ltb limit (length name) b, short s n f h, ← f); work = refl }

      module _ (h : length s ≤ n) (m : ℕ) (g : m ≡ longest name) where
        pub find_name_ill : m < length name → Finds s name w (Err (NotUtf8 m)) w
        unfolding find_name unless
        find_name_ill k = record { answer = simp (le-ltb limit (length s) a, le-ltb limit (length name) b, whole-text s n f h, short name m g k, ← g); work = refl }

        module _ (k : length name ≤ m) where
          pub both-well : (length s ≤ limit) × (length name ≤ limit) × (utf8 s ≡ true) × (utf8 name ≡ true)
          both-well = (a, b, whole-text s n f h, whole-text name m g k)

          pub find-checked : (r : Answer ℕ) (v : List ℕ) → FindsChecked s name w r v → Finds s name w r v
          unfolding find_name unless
          find-checked r v q = record { answer = q.answer ∙ sym (simp (le-ltb limit (length s) a, le-ltb limit (length name) b, whole-text s n f h, whole-text name m g k)); work = q.work }

-- the work space, by the answer that is defined
pub work-after : (s name w : List ℕ) (a : Answer ℕ) (v : List ℕ) → Finds s name w a v → WorkAfter (find_name s name (length w)) w v
work-after s name w a v f = subst (λ (b : Answer ℕ). WorkAfter b w v) f.answer f.work
