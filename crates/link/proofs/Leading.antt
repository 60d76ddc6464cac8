-- A call that did at its side what the definitions say leads on.
use Rattle.std.proofs.Common.{◌≡◌, ℕ, ◌<◌, List, get_or, sym, subst, w8, Fits}
use Rattle.std.proofs.ByRecursion.{All-from_get_or}
use Rattle.block_check.specs.Law.{Code, Bytes, Lawful}
use Rattle.rules.specs.declared.seat.Side.{Side}
use Rattle.rules.specs.Links.{Act, Answer, World, stepped}
use Rattle.law.specs.Law.{OfBytes, LeadsOn}
use Rattle.law.proofs.Runs.{calls_lead_on}
use Rattle.link.specs.Worlds.{Outcome, outcome, steps, wrote}

pub leads_on : (k : Code) → Lawful k.width k.value → (w later : World) (side : Side) (act : Act) → OfBytes act → (answer : Answer) (before after : List ℕ) →
    outcome answer later after ≡ steps k w side act before → LeadsOn k w (wrote side act answer after) later
unfolding stepped
leads_on k law w later side act bytes answer before after e =
    subst (λ (o : Outcome). LeadsOn k w (wrote side act o.answer o.scratch) o.world) (sym e)
    (calls_lead_on k law w (record { side = side; act = act; scratch = before }) bytes)

-- the bytes of a payload
pub bytes_of : (xs : List ℕ) → ((i : ℕ) → Fits w8 (get_or xs i 0)) → Bytes xs
bytes_of xs each = All-from_get_or (λ x. x < 256) xs 0 (λ i h. (each i).fits)
