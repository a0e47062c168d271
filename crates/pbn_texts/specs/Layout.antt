-- Where the texts of a board stand, from its sources. (01: From PBN, "back to back: names S, W, N, E, title, room-and-board, header ..")
use Rattle.lin_spec.specs.declared.Span.{Span}
use Rattle.std.specs.Prelude.{ℕ, ◌+◌, List, map, length, Option}
use Rattle.lin_spec.specs.Pbn.{name_by, laid_names}
use Rattle.pbn_texts.specs.declared.sources.Sources.{Sources}
use Rattle.pbn_texts.specs.declared.layout.Layout.{Layout}
use Rattle.pbn_texts.specs.Texts.{title_text, room_text, label_header}
use Rattle.pbn_texts.specs.Names.{pbn_names_text}

-- each text begins where the one before it ends
unfoldable pub layout_of : (p q : ℕ) (s : List ℕ) (names : List (Option Span)) → Sources → Layout
layout_of p q s ms x =
    let title = length (pbn_names_text p q s ms) in
    let room = title + length (title_text s x.event x.date) in
    let header = room + length (room_text s x.label) in
    record {
      names = laid_names 0 (map (name_by p q s) ms);
      title = title;
      room_board = room;
      header = header;
      calls = header + length (label_header s x.label);
    }
