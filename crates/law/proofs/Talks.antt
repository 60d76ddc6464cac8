-- What a log-in may offer: every offer lies between the smaller of the two limits and the limits of its own side.
use Rattle.std.proofs.Common.{◌≡◌, ℕ, ◌<◌, ◌≤◌, min, Bool, true, false, cond, ◌&&◌, eqb, length, Some, None, Option, refl, arith}
use Rattle.std.proofs.lemmas.Bool.{eqb-true, and_parts, cond_both, false≢true}
use Rattle.std.proofs.lemmas.Bool.Decides.{nat_tests}
use Rattle.block_check.specs.Law.{Bytes}
use Rattle.block.specs.declared.heading.Heading.{Heading}
use Rattle.block.specs.declared.status.Status.{Status}
use Rattle.block.specs.declared.status.Status.TheVariants.{Good, BadCheck, OverLength, UnderLength, Unsupported, OutOfResources, LogInInProgress, IllegalPause, OutOfTurn, BadLogIn, BadRecord}
use Rattle.block.specs.Form.{in_range}
use Rattle.block.specs.Reading.{Content}
use Rattle.block.specs.Statuses.{code_of}
use Rattle.block_law.specs.Theorems.{Fits}
use Rattle.login.specs.declared.Parameters.{Parameters}
use Rattle.login.specs.Form.{log_in_of}
use Rattle.rules.specs.declared.seat.Side.{Side}
use Rattle.rules.specs.declared.seat.Side.TheVariants.{Controller, Sled}
use Rattle.rules.specs.declared.seat.State.{State}
use Rattle.rules.specs.declared.seat.State.TheVariants.{LoggedIn, LoggedOut}
use Rattle.rules.specs.declared.seat.Latest.{Latest}
use Rattle.rules.specs.declared.seat.Talk.{Talk}
use Rattle.rules.specs.declared.seat.Seat.{Seat}
use Rattle.rules.specs.Frames.{ack_frame, log_in_frame}
use Rattle.rules.specs.LogIns.{smaller, settles, settled, moved}
use Rattle.rules.specs.Ends.{in_limits}
use Rattle.law.specs.Journals.{Record}
use Rattle.law.proofs.Ways.{framed}
use Rattle.law.proofs.Reading.{Sized}
use Rattle.law.proofs.States.{settles_by, not_out}

pub record Within (low p high : Parameters) : Type 0 where
  pub offset_low : low.offset ≤ p.offset
  pub offset_high : p.offset ≤ high.offset
  pub payload_low : low.payload ≤ p.payload
  pub payload_high : p.payload ≤ high.payload
  pub baud_low : low.baud ≤ p.baud
  pub baud_high : p.baud ≤ high.baud

-- limits in range
pub record Limits (p : Parameters) : Type 0 where
  pub offset : p.offset ≤ 8
  pub payload : p.payload ≤ 512
  pub baud : p.baud ≤ 65535

limits_of : (p : Parameters) → in_limits p ≡ true → Limits p
limits_of p h = record { offset = grind (arith, nat_tests); payload = grind (arith, nat_tests); baud = grind (arith, nat_tests) }

-- m is the smaller of two limits in range
pub record Bounds (m a b : Parameters) : Type 0 where
  pub offset : m.offset ≡ min a.offset b.offset
  pub payload : m.payload ≡ min a.payload b.payload
  pub baud : m.baud ≡ min a.baud b.baud
  pub here : Limits a
  pub there : Limits b

pub bounds : (a b : Parameters) → in_limits a ≡ true → in_limits b ≡ true → Bounds (smaller a b) a b
bounds a b x y = record { offset = refl; payload = refl; baud = refl; here = limits_of a x; there = limits_of b y }

pub bounds_swap : {m a b : Parameters} → Bounds m a b → Bounds m b a
bounds_swap x = record { offset = omega arith; payload = omega arith; baud = omega arith; here = x.there; there = x.here }

pub within_start : {m a b : Parameters} → Bounds m a b → Within m a a
within_start x = record { offset_low = omega arith; offset_high = omega arith; payload_low = omega arith; payload_high = omega arith; baud_low = omega arith; baud_high = omega arith }

parameters_path : (p q : Parameters) → p.offset ≡ q.offset → p.payload ≡ q.payload → p.baud ≡ q.baud → p ≡ q
parameters_path p q a b c = λ i. record { offset = a i; payload = b i; baud = c i }

-- the smaller of an offer of either side lies within the limits of both, and so is m
module _ {m a b : Parameters} (p q : Parameters) (h : Within m p a) (k : Within m q b) where
  pub smaller_here : Within m (smaller p q) a
  smaller_here = record { offset_low = omega arith; offset_high = omega arith; payload_low = omega arith; payload_high = omega arith; baud_low = omega arith; baud_high = omega arith }

  pub smaller_agreed : Bounds m a b → smaller p q ≡ m
  smaller_agreed x = parameters_path (smaller p q) m (omega arith) (omega arith) (omega arith)

-- a log-in that was sent
pub record Offered (m a : Parameters) (l : Latest) : Type 0 where
  pub parameters : Within m l.message.parameters a
  pub count : l.number ≤ 8

abbrev pub Known : Parameters → Parameters → Option Latest → Type 0
Known m a None = Unit {0}
Known m a (Some l) = Offered m a l

pub record TalkOk (m a : Parameters) (state : State) (t : Talk) : Type 0 where
  pub offer : Within m t.offer a
  pub latest : Known m a t.latest
  pub far : t.far ≡ true → t.offer ≡ m
  pub agreed : state ≡ LoggedIn → t.offer ≡ m

abbrev pub SeatOk : Parameters → Parameters → Seat → Type 0
SeatOk m a s = TalkOk m a s.state s.talk

pub out_ok : {m a : Parameters} (s : Seat) → SeatOk m a s → SeatOk m a (moved LoggedOut s)
out_ok s t = record { offer = t.offer; latest = t.latest; far = t.far; agreed = λ z. absurd (not_out z) }

pub settled_ok : {m a : Parameters} (s : Seat) → SeatOk m a s → SeatOk m a (settled s)
settled_ok {m} {a} s t =
    cond_both (settles s.state s.talk) (moved LoggedIn s) s (SeatOk m a)
    (λ h. record { offer = t.offer; latest = t.latest; far = t.far; agreed = λ _. t.far (settles_by s.state s.talk h).2 })
    (λ _. t)

pub settled_flow : (s : Seat) → (settled s).flow ≡ s.flow
settled_flow s = cond_both (settles s.state s.talk) (moved LoggedIn s) s (λ (x : Seat). x.flow ≡ s.flow) (λ _. refl) (λ _. refl)

-- frames on a line from the side whose limits are a
abbrev pub is_log_in : Content → Bool
is_log_in f = eqb f.heading.protocol 0 && eqb f.heading.kind 1

pub record Clean (m a : Parameters) (f : Content) : Type 0 where
  pub sized : Sized f
  pub log_in : is_log_in f ≡ true → Within m (log_in_of f.payload).parameters a

code_byte : (status : Status) → code_of status < 256
code_byte Good = omega arith
code_byte BadCheck = omega arith
code_byte OverLength = omega arith
code_byte UnderLength = omega arith
code_byte Unsupported = omega arith
code_byte OutOfResources = omega arith
code_byte LogInInProgress = omega arith
code_byte IllegalPause = omega arith
code_byte OutOfTurn = omega arith
code_byte BadLogIn = omega arith
code_byte BadRecord = omega arith

pub clean_ack : {m a : Parameters} (h : Heading) (status : Status) → Fits h → Clean m a (ack_frame h status)
clean_ack h status fits = record {
  sized = record {
    fits = record { ranged = let r = fits.ranged in grind (arith, nat_tests); number = fits.number; exchange = fits.exchange };
    size = omega arith;
    bytes = (code_byte status, tt);
  };
  log_in = λ z. absurd (false≢true z);
}

flag_byte : (b : Bool) → cond b 64 128 < 256
flag_byte true = omega arith
flag_byte false = omega arith

side_ranged : (side : Side) (l : Latest) → in_range (log_in_frame side l).heading ≡ true
side_ranged Controller l = refl
side_ranged Sled l = refl

pub clean_log_in : {m a : Parameters} (side : Side) (l : Latest) → Limits a → Offered m a l → Clean m a (log_in_frame side l)
clean_log_in side l r h = record {
  sized = record {
    fits = record { ranged = side_ranged side l; number = omega arith; exchange = omega arith };
    size = omega arith;
    bytes = (flag_byte l.message.accept, (omega arith, (omega arith, (omega arith, (omega arith, (omega arith, tt))))));
  };
  log_in = λ _. record { offset_low = h.parameters.offset_low; offset_high = h.parameters.offset_high; payload_low = omega arith; payload_high = omega arith; baud_low = omega arith; baud_high = omega arith };
}

-- records that an end may accept
pub record Fit (r : Record) : Type 0 where
  pub origin : r.tag.origin < 2
  pub carried : 0 < r.tag.protocol
  pub protocol : r.tag.protocol < 8
  pub kind : r.tag.kind < 16
  pub exchange : r.tag.exchange < 65536
  pub size : length r.payload ≤ 512
  pub bytes : Bytes r.payload

pub clean_record : {m a : Parameters} (n : ℕ) (r : Record) → n < 256 → Fit r → Clean m a (framed n r)
clean_record n r small h = record {
  sized = record { fits = record { ranged = grind (arith, nat_tests); number = small; exchange = h.exchange }; size = h.size; bytes = h.bytes };
  log_in = λ z. absurd (let e = eqb-true r.tag.protocol 0 (and_parts (eqb r.tag.protocol 0) (eqb r.tag.kind 1) z).0 in omega (arith, h.carried));
}
