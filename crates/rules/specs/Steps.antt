-- Calls and answers as values of the code, and what they stand for.
use Rattle.std.specs.Prelude.{ℕ, List, [], take, drop, Some, None, Ok, Err, Option, Result}
use Rattle.refusal.specs.declared.Refusal.{Refusal}
use Rattle.refusal.specs.Numbers.{number_of}
use Rattle.rules.specs.declared.call.Part.{Part}
use Rattle.rules.specs.declared.call.Step.{Step}
use Rattle.rules.specs.declared.call.Step.TheVariants.{Open, Send, Poll, Timeout, Lose, Spoil}
use Rattle.rules.specs.declared.call.Answer.{Answer as Answered}
use Rattle.rules.specs.declared.call.Answer.TheVariants.{Open as Opened, Send as Sent, Poll as Polled, Timeout as TimedOut, Lose as Lost}
use Rattle.rules.specs.Links.{Act, open_link, send, poll, timeout, lose, spoil, Answer, opened, sent, polled, timed_out, lost}

-- a part of the bytes that all sends share, as far as there are so many
abbrev pub part_of : List ℕ → Part → List ℕ
part_of bytes p = take p.size (drop p.place bytes)

-- the payload that a step sends, empty where it sends none
abbrev pub payload_of : List ℕ → Step → List ℕ
payload_of bytes Open = []
payload_of bytes (Send tag p) = part_of bytes p
payload_of bytes Poll = []
payload_of bytes Timeout = []
payload_of bytes Lose = []
payload_of bytes (Spoil c) = []

abbrev pub act_of : List ℕ → Step → Act
act_of bytes Open = open_link
act_of bytes (Send tag p) = send tag (part_of bytes p)
act_of bytes Poll = poll
act_of bytes Timeout = timeout
act_of bytes Lose = lose
act_of bytes (Spoil c) = spoil c.place c.addend

abbrev pub answer_of : Answered → Answer
answer_of (Opened r) = opened r
answer_of (Sent r) = sent r
answer_of (Polled r) = polled r
answer_of (TimedOut r) = timed_out r
answer_of (Lost r) = lost r

-- why a call was refused, if it was
abbrev pub why_not : {R : Type 0} → Result R Refusal → Option Refusal
why_not (Ok r) = None
why_not (Err why) = Some why

abbrev pub why_refused : Answered → Option Refusal
why_refused (Opened r) = why_not r
why_refused (Sent r) = why_not r
why_refused (Polled r) = why_not r
why_refused (TimedOut r) = why_not r
why_refused (Lost r) = why_not r

-- the number of a refusal, and 0 where there is none
abbrev pub number_of_why : Option Refusal → ℕ
number_of_why None = 0
number_of_why (Some why) = number_of why.reason

-- the number of a refusal, or 0
abbrev pub number_or_0 : {R : Type 0} → Result R Refusal → ℕ
number_or_0 (Ok r) = 0
number_or_0 (Err why) = number_of why.reason

abbrev pub refusal_of : Answered → ℕ
refusal_of (Opened r) = number_or_0 r
refusal_of (Sent r) = number_or_0 r
refusal_of (Polled r) = number_or_0 r
refusal_of (TimedOut r) = number_or_0 r
refusal_of (Lost r) = number_or_0 r
