-- What the tiny tariff means.
use Rattle.std.specs.Prelude.{ℕ, ◌+◌, ◌*◌, min, Bool, ◌&&◌, List, length, ℤ, pos, negsuc, is_some, Some, None, Ok, Err, Option, if◌then◌else◌, ◌==◌, nat_le, nat_lt, slice_index, slice_set, unsigned_abs, unwrap_or}
use Rattle.tarifftests.specs.declared.tolls.Head.{Head}
use Rattle.tarifftests.specs.declared.tolls.Head.TheVariants.{First, Second}
use Rattle.terms.specs.declared.Refusal.TheVariants.{OutOfRange, BadCorner, SerialUnknown}
use Rattle.terms.specs.Triangles.{is_fold_of, is_triangle_of}
use Rattle.tariffs.specs.declared.calls.Change.{Change}
use Rattle.tariffs.specs.declared.calls.Change.TheVariants.{Amend, Exchange}
use Rattle.tariffs.specs.Views.{Answer, View}
use Rattle.tariffs.specs.Meanings.{Outlook}

-- a head's serial, and the head with a serial
abbrev pub serial_of : Head → ℕ
serial_of First = 1
serial_of Second = 2

abbrev pub head_with : ℕ → Option Head
head_with serial = if serial == 1 then Some First else if serial == 2 then Some Second else None

pub record State : Type 0 where
  pub tolls : List ℕ
  pub head : Head

abbrev pub state : List ℕ → Head → State
state tolls head = record { tolls = tolls; head = head }

abbrev pub toll : List ℕ → ℕ → ℕ
toll tolls c = min (slice_index tolls c) 1000

abbrev pub known : ℕ → Bool
known serial = is_some (head_with serial)

abbrev pub view_of : State → View
view_of s = record {
  corners = 4;
  knows = known;
  in_use = serial_of s.head;
  price = λ t. if is_triangle_of 4 t then Some (serial_of s.head * (toll s.tolls t.low + toll s.tolls t.mid + toll s.tolls t.high)) else None;
  fold_price = λ f. if is_fold_of 4 f then Some (serial_of s.head * toll s.tolls f.outer) else None;
}

-- a whole number from 0 to 1000
abbrev pub toll_of : ℤ → Option ℕ
toll_of (pos n) = if nat_le n 1000 then Some n else None
toll_of (negsuc n) = None

-- one of the four corners, whose toll is there to be amended
abbrev pub amendable : State → ℕ → Bool
amendable s c = nat_lt c 4 && nat_lt c (length s.tolls)

abbrev pub answer_of : State → Change → Answer
answer_of s (Amend c x y z) = if is_some (toll_of x) then if amendable s c then Ok tt else Err BadCorner else Err OutOfRange
answer_of s (Exchange n) = if known n then Ok tt else Err SerialUnknown

abbrev pub outlook : State → Outlook
outlook s = record { view = view_of s; answer = answer_of s }

abbrev pub accepted : State → Change → State
accepted s (Amend c x y z) = state (slice_set s.tolls c (unsigned_abs x)) s.head
accepted s (Exchange n) = state s.tolls (unwrap_or (head_with n) First)
