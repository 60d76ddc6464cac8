-- Worked examples, from the definitions that the code's contracts cite.
use Rattle.std.specs.Prelude.{◌≡◌, ℕ, false, List, [], ◌∷◌}
use Rattle.block.specs.Form.{sealed}
use Rattle.checks.specs.Sums.{sum_value}
use Rattle.login.specs.declared.LogIn.{LogIn}
use Rattle.login.specs.Form.{encoded}
use Rattle.wire.specs.Form.{framed, found}

-- a block of link service that the controller began, under the sum check
abbrev pub service : ℕ → ℕ → ℕ → List ℕ → List ℕ
service kind number exchange payload =
    sealed 1 sum_value (record { origin = 0; protocol = 0; kind = kind; number = number; exchange = exchange }) payload

abbrev pub first_offer : LogIn
first_offer = record { accept = false; parameters = record { offset = 8; payload = 512; baud = 96 } }

pub record Hold : Type 0 where
  -- the acknowledgement with status 00h, number 5, Exchange ID 7
  pub acknowledgement : service 0 5 7 (0x00 ∷ []) ≡ 0x00 ∷ 0x05 ∷ 0x00 ∷ 0x07 ∷ 0x00 ∷ 0x01 ∷ 0x00 ∷ 0x0d ∷ []
  -- the controller's first log-in, with the limits 8, 512, 96 and Accept 0
  pub log_in :
      service 1 1 0 (encoded first_offer)
      ≡ 0x01 ∷ 0x01 ∷ 0x00 ∷ 0x00 ∷ 0x00 ∷ 0x06 ∷ 0x80 ∷ 0x08 ∷ 0x02 ∷ 0x00 ∷ 0x00 ∷ 0x60 ∷ 0xf2 ∷ []
  -- a block on the wire
  pub written : framed (0x1b ∷ 0x00 ∷ []) ≡ 0x02 ∷ 0x1b ∷ 0x9b ∷ 0x00 ∷ 0x03 ∷ []
  -- a frame that begins anew
  pub read : found (0x02 ∷ 0x41 ∷ 0x02 ∷ 0x42 ∷ 0x03 ∷ []) ≡ record { block = 0x42 ∷ []; rest = [] }
