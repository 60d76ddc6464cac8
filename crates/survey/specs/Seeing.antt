-- What a block says to one who reads a capture.
use Rattle.std.specs.Prelude.{ℕ, cond, List, length, Some, None, Ok, Err, Option, Result, ◌==◌, slice_index}
use Rattle.block.specs.declared.status.Status.{Status}
use Rattle.block.specs.Reading.{Content, read_block}
use Rattle.block.specs.Statuses.{named}
use Rattle.login.specs.declared.LogIn.{LogIn}
use Rattle.login.specs.Form.{decoded}
use Rattle.survey.specs.declared.seen.Service.{Service}
use Rattle.survey.specs.declared.seen.Service.TheVariants.{Acknowledgement, LogInOffer, Other}
use Rattle.survey.specs.declared.seen.Message.{Message}

abbrev pub offer_of : Option LogIn → Service
offer_of (Some l) = LogInOffer l
offer_of None = Other

-- An acknowledgement is link service of type 0h with one byte, a log-in link service of type 1h with six.
abbrev pub service_of : ℕ → ℕ → List ℕ → Service
service_of protocol kind payload =
    cond (protocol == 0)
    (cond (kind == 0) (cond (length payload == 1) (Acknowledgement (named (slice_index payload 0))) Other)
    (cond (kind == 1) (offer_of (decoded payload)) Other)) Other

abbrev pub seen_as : Result Content Status → Result Message Status
seen_as (Ok c) = Ok (record {
  heading = c.heading;
  size = length c.payload;
  service = service_of c.heading.protocol c.heading.kind c.payload;
})
seen_as (Err status) = Err status

abbrev pub seen : ℕ → (List ℕ → ℕ) → List ℕ → Result Message Status
seen w value block = seen_as (read_block w value block)
