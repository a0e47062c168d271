-- The finder, the board cursor and its step as numbers. (01: File; names; 02: N3)
use Rattle.std.specs.Prelude.{ℕ, ◌≡◌, not, List, eqb, length, Err, Ok}
use Rattle.lin_spec.specs.Refusals.{Answer}
use Rattle.lin_spec.specs.Reading.{flag}
use Rattle.lin_spec.specs.File.{Standing, Visit, ReadStep}
use Rattle.lin_spec.specs.File.Visit.{found, ended}
use Rattle.file_finder.specs.Finder.{find_name, WorkAfter}
use Rattle.lin_host_numbers.specs.Answers.{numbers_of}
use Rattle.lin_host_numbers.specs.Boards.{board_numbers}
use Rattle.lin_host_numbers.specs.declared.answers.LinAnswer.{LinAnswer}
use Rattle.lin_host.specs.declared.files.LinBoards.{LinBoards}
use Rattle.lin_host.specs.declared.files.LinRead.{LinRead}
use Rattle.lin_host.specs.declared.files.LinSection.{LinSection}

-- the finder's answer as numbers, and the work space afterwards
pub record FindsNumbers (s name w : List ℕ) (a : LinAnswer) (v : List ℕ) : Type 0 where
  pub answer : a ≡ numbers_of (find_name s name (length w))
  pub work : WorkAfter (find_name s name (length w)) w v

-- a cursor of any numbers: `lines` other than 0 counts as 1
abbrev pub standing : (at number lines : ℕ) → Standing
standing at number lines = record { at = at; number = number; lines = not (eqb lines 0) }

-- the answer 0 with the cursor, or the refusal with 0, 0, 0
unfoldable pub opened_numbers : Answer Standing → LinBoards
opened_numbers (Ok c) = record { answer = numbers_of (Ok 0); at = c.at; number = c.number; lines = flag c.lines }
opened_numbers (Err r) = record { answer = numbers_of (Err r); at = 0; number = 0; lines = 0 }

-- without a section its numbers are 0
unfoldable pub visit_numbers : Visit → LinSection
visit_numbers (found n p c) =
    record {
      found = 1;
      number = n;
      start = p.start;
      stop = p.stop;
      board = flag p.board;
      next_at = c.at;
      next_number = c.number;
    }
visit_numbers (ended c) =
    record {
      found = 0;
      number = 0;
      start = 0;
      stop = 0;
      board = 0;
      next_at = c.at;
      next_number = c.number;
    }

-- a step that reads: the answer 0, or the refusal
abbrev pub step_answer : Answer Visit → LinAnswer
step_answer (Ok v) = numbers_of (Ok 0)
step_answer (Err r) = numbers_of (Err r)

-- what it gives as a step: a refusal gives none, with the cursor handed back
abbrev pub step_visit : Answer Visit → Standing → Visit
step_visit (Ok v) c = v
step_visit (Err r) c = ended c

pub record StepRead : Type 0 where
  pub read : LinRead
  pub rows : List ℕ
  pub cards : List ℕ

-- with the board, and the rows and cards afterwards
unfoldable pub read_numbers : ReadStep → StepRead
read_numbers r =
    let v = visit_numbers (step_visit r.answer r.cursor) in
    record {
      read =
          record {
            answer = step_answer r.answer;
            found = v.found;
            number = v.number;
            start = v.start;
            stop = v.stop;
            next_at = v.next_at;
            next_number = v.next_number;
            board = board_numbers r.board;
            calls = r.calls;
            cards = r.play;
          };
      rows = r.rows;
      cards = r.cards;
    }
