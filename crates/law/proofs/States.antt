-- States told apart, and what a settled log-in shows.
use Rattle.std.proofs.Common.{◌≡◌, ℕ, true, ◌&&◌, refl, arith}
use Rattle.std.proofs.lemmas.Bool.{and_parts, false≢true}
use Rattle.rules.specs.declared.seat.State.{State}
use Rattle.rules.specs.declared.seat.State.TheVariants.{Initial, Login, LoggedIn, LoggedOut}
use Rattle.rules.specs.declared.seat.Talk.{Talk}
use Rattle.rules.specs.LogIns.{accepted, settles}
use Rattle.rules.specs.Records.{logged_in}

pub not_login : Login ≡ LoggedIn → ⊥
not_login z = let q : ◌≡◌ {A = ℕ} 0 1 = cc in omega arith

pub not_out : LoggedOut ≡ LoggedIn → ⊥
not_out z = let q : ◌≡◌ {A = ℕ} 0 1 = cc in omega arith

pub settles_by : (state : State) (t : Talk) → settles state t ≡ true → (accepted t.latest ≡ true) × (t.acked ≡ true) × (t.far ≡ true)
settles_by Initial t h = absurd (false≢true h)
settles_by Login t h = let p = and_parts (accepted t.latest) (t.acked && t.far) h in let q = and_parts t.acked t.far p.1 in (p.0, q.0, q.1)
settles_by LoggedIn t h = absurd (false≢true h)
settles_by LoggedOut t h = absurd (false≢true h)

pub logged_in_is : (state : State) → logged_in state ≡ true → state ≡ LoggedIn
logged_in_is Initial h = absurd (false≢true h)
logged_in_is Login h = absurd (false≢true h)
logged_in_is LoggedIn h = refl
logged_in_is LoggedOut h = absurd (false≢true h)
