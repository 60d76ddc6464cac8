-- Numbers, and what an end thinks of a frame that is neither an acknowledgement nor a log-in.
use Rattle.std.specs.Prelude.{ℕ, zero, suc, ◌+◌, ◌-◌, ◌%◌, min, Bool, true, false, cond, not, ◌&&◌, ◌||◌, List, [], ◌∷◌, length, ◌==◌, nat_lt}
use Rattle.block.specs.declared.status.Status.TheVariants.{Good, Unsupported, LogInInProgress, IllegalPause, OutOfTurn, BadRecord}
use Rattle.block.specs.Reading.{Content}
use Rattle.rules.specs.declared.seat.State.{State}
use Rattle.rules.specs.declared.seat.State.TheVariants.{Initial, Login, LoggedIn, LoggedOut}
use Rattle.rules.specs.declared.seat.Flow.{Flow}
use Rattle.rules.specs.declared.seat.Seat.{Seat}
use Rattle.rules.specs.declared.seat.Verdict.{Verdict}
use Rattle.rules.specs.declared.seat.Verdict.TheVariants.{Only, Hand}

-- numbers go from 1 to 255 and round again
unfoldable pub after : ℕ → ℕ
after n = 1 + n % 255

-- whether n is one of the `count` numbers before `expected`; 0 is no number
unfoldable pub repeats : ℕ → ℕ → ℕ → Bool
repeats n expected count = nat_lt 0 n && nat_lt ((expected + 254 - n) % 255) count

-- one more record taken: of the latest numbers as many count as repeats as the agreed offset says, and never more than
-- were taken
abbrev pub took_one : ℕ → Flow → Flow
took_one offset f = record { next = f.next; expected = after f.expected; taken = min (f.taken + 1) offset }

-- how many frames an acknowledgement of n clears: the one of that number and all older ones, or none
abbrev pub one_more : ℕ → ℕ
one_more zero = zero
one_more (suc k) = suc (suc k)

unfoldable pub clears : ℕ → List Content → ℕ
clears n [] = 0
clears n (f ∷ fs) = cond (f.heading.number == n) 1 (one_more (clears n fs))

abbrev pub logged_in : State → Bool
logged_in Initial = false
logged_in Login = false
logged_in LoggedIn = true
logged_in LoggedOut = false

-- Link service of type 2h gets 07h, of types 3h to Fh 04h. Protocols 1 to 7 get 06h before log-in. In Logged-In,
-- Protocols 4 to 7 get 04h; then a payload above the agreed size or Exchange ID 0 gets 42h; the expected number is
-- handed up, a repeat gets 00h only, any other number 40h.
unfoldable pub judged : Seat → Content → Verdict
judged s f =
    cond (f.heading.protocol == 0) (cond (f.heading.kind == 2) (Only IllegalPause) (Only Unsupported))
    (cond (not (logged_in s.state)) (Only LogInInProgress)
    (cond (nat_lt 3 f.heading.protocol) (Only Unsupported)
    (cond (nat_lt s.talk.offer.payload (length f.payload) || f.heading.exchange == 0) (Only BadRecord)
    (cond (f.heading.number == s.flow.expected) Hand
    (cond (repeats f.heading.number s.flow.expected s.flow.taken) (Only Good) (Only OutOfTurn))))))
