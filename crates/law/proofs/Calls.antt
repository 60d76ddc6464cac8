-- Each call at an end keeps the invariant of the link.
use Rattle.std.proofs.Common.{◌≡◌, ℕ, suc, ◌+◌, ◌<◌, true, false, eqb, ltb, leb, ◌⊎◌, List, [], ◌∷◌, ◌++◌, length, take, drop, Some, None, Ok, Option, Result, sym, refl, ap, ◌∙◌, subst, inl, inr, arith}
use Rattle.std.specs.List.{AllByRecursion}
use Rattle.std.proofs.ByRecursion.{All-drop, All-push}
use Rattle.std.proofs.lemmas.Bool.{ltb-true, lt-ltb, and_parts, cond_both, ne_eqb}
use Rattle.std.proofs.lemmas.Bool.Decides.{nat_tests}
use Rattle.refusal.specs.declared.Refusal.{Refusal}
use Rattle.refusal.specs.Buffers.{over}
use Rattle.line.specs.Blocks.{take_answer, take_after, take_buffer}
use Rattle.block_check.specs.Law.{Code, Bytes, Lawful}
use Rattle.block.specs.declared.status.Status.{Status}
use Rattle.block.specs.Reading.{Content, read_block}
use Rattle.login.specs.declared.Parameters.{Parameters}
use Rattle.rules.specs.declared.seat.State.{State}
use Rattle.rules.specs.declared.seat.State.TheVariants.{Initial, Login, LoggedIn, LoggedOut}
use Rattle.rules.specs.declared.seat.Latest.{Latest}
use Rattle.rules.specs.declared.answer.Tag.{Tag}
use Rattle.rules.specs.declared.answer.Sent.{Sent}
use Rattle.rules.specs.declared.answer.Heard.{Heard}
use Rattle.rules.specs.declared.answer.Heard.TheVariants.{Quiet, Answer, Renew, Hand}
use Rattle.rules.specs.Frames.{log_in_frame, latest_frames, cleared_by, replies}
use Rattle.rules.specs.LogIns.{moved}
use Rattle.rules.specs.Records.{logged_in}
use Rattle.rules.specs.Ends.{End, with_row, hears}
use Rattle.rules.specs.Sending.{block, blocks}
use Rattle.rules.specs.Calls.{Sending, Polling, roomy, initial, idle, logged_out, first_log_in, opened as opened-seat, tag_in_range, numbered, enters, due, opens, sends_record, sends_if, times_out, resends, handed, receives, receives_as, polls, polls_open, polls_taken, unchanged}
use Rattle.rules.specs.Links.{Act, open_link, send, poll, timeout, lose, spoil, Node, Losing, loses, spoiled, spoils, Acted, opened, sent, timed_out, acted_sending, acted_polling, acted_losing, acts}
use Rattle.law.specs.Journals.{Record, Past, handed_by, with_answer}
use Rattle.law.specs.Law.{OfBytes}
use Rattle.law.proofs.Lines.{number, number_byte, puts}
use Rattle.law.proofs.Ways.{framed, recorded, confirms, frames_from, sender, receiver, Way, way_rest_forward, way_rest_back, way_puts_forward, way_puts_back, way_accept, way_resend}
use Rattle.law.proofs.Reading.{Sized, Bad, read_sealed, block_there, payload_there, spoiled_block}
use Rattle.law.proofs.Talks.{Bounds, Known, Offered, SeatOk, out_ok, Clean, clean_log_in, Fit, clean_record}
use Rattle.law.proofs.Polls.{Place, Inv, Stands, far_with, led_on, given, Left, hears_kept, bad_block_kept}
use Rattle.law.proofs.States.{not_login, logged_in_is}

-- the frames of accepted records are clean and confirm nothing
record_idle : (n : ℕ) (r : Record) → 0 < r.tag.protocol → confirms (framed n r) ≡ false
record_idle n r h = rw (ne_eqb r.tag.protocol 0 (λ z. omega arith)) refl

frames_clean : (m a : Parameters) (k : ℕ) (rs : List Record) → AllByRecursion Fit rs → AllByRecursion (Clean m a) (frames_from k rs)
unfolding frames_from
frames_clean m a k [] h = tt
frames_clean m a k (r ∷ rs) h = (clean_record (number k) r (number_byte k) h.0, frames_clean m a (suc k) rs h.1)

frames_idle : (k : ℕ) (rs : List Record) → AllByRecursion Fit rs → AllByRecursion (λ q. confirms q ≡ false) (frames_from k rs)
unfolding frames_from
frames_idle k [] h = tt
frames_idle k (r ∷ rs) h = (record_idle (number k) r h.0.carried, frames_idle (suc k) rs h.1)

fit : (tag : Tag) (payload : List ℕ) → tag_in_range tag ≡ true → leb (length payload) 512 ≡ true → Bytes payload → Fit (record { tag = tag; payload = payload })
fit tag payload t s bytes = record {
  origin = grind (arith, nat_tests);
  carried = grind (arith, nat_tests);
  protocol = grind (arith, nat_tests);
  kind = grind (arith, nat_tests);
  exchange = grind (arith, nat_tests);
  size = grind (arith, nat_tests);
  bytes = bytes;
}

abbrev pub place : Node → Past → Place
place n p = record { end = n.end; line = n.line; past = p }

-- the link stands after the call, which came to r
abbrev pub Leads : Code → Parameters → Parameters → Parameters → Past → Place → Act → Acted → Type 0
Leads k m a b p f act r =
    Stands k m a b (place r.near (with_answer p act r.scratch r.answer)) (record { end = f.end; line = r.outgoing; past = f.past })

-- what is heard of a record in the scratch is what the frame hands up
handed_there : (k : Code) → Lawful k.width k.value → (g : Content) → Sized g → (x : Heard) (scratch : List ℕ) → handed_by (handed x g) (over (block k g) scratch) ≡ given x g
handed_there k law g s Hand scratch = ap (λ (l : List ℕ). record { tag = (recorded g).tag; payload = l } ∷ []) (payload_there k law g s scratch)
handed_there k law g s (Quiet n) scratch = refl
handed_there k law g s (Answer status) scratch = refl
handed_there k law g s Renew scratch = refl

-- a take from a line on which a block waits
first_taken : (P : Result ℕ Refusal → List (List ℕ) → List ℕ → Type 0) (block : List ℕ) (later : List (List ℕ)) (scratch : List ℕ) → leb 520 (length scratch) ≡ true
    → P (Ok (length block)) later (over block scratch) → P (take_answer (block ∷ later) scratch) (take_after (block ∷ later) scratch) (take_buffer (block ∷ later) scratch)
first_taken P block later scratch room h = rw (room, lt-ltb 0 (suc (length later)) (omega arith)) h

module _ (k : Code) (law : Lawful k.width k.value) (m a b : Parameters) (n : Node) (p : Past) (f : Place) (bd : Bounds m a b) where
  abbrev After : Act → Acted → Type 0
  After act r = Leads k m a b p f act r

  module _ (ins outs : List Content) (v : Inv k m a b (place n p) f ins outs) where
    -- a call that takes no block and accepts no record
    goes_out : (e : End) (fs : List Content) → sender e ≡ sender n.end → receiver e ≡ receiver n.end → SeatOk m a e.seat → AllByRecursion (Clean m a) fs
        → Way m.offset p.accepted p.cleared (sender n.end) f.past.handed (receiver f.end) (puts outs fs) ins
        → AllByRecursion (λ q. confirms q ≡ false) fs → Stands k m a b (record { end = e; line = n.line; past = p }) (far_with k f fs)
    goes_out e fs es er ok clean out idles =
        led_on law e n.line p ins fs v v.in_line v.in_clean ok clean (rw es out) (rw er (way_puts_back fs idles v.back)) v.here_records

    out_silent : (e : End) → sender e ≡ sender n.end → receiver e ≡ receiver n.end → SeatOk m a e.seat → Stands k m a b (record { end = e; line = n.line; past = p }) f
    unfolding puts
    out_silent e es er ok = goes_out e [] es er ok tt v.out tt

    opens_kept : (scratch : List ℕ) → After open_link (acted_sending opened n (opens k n.end n.store f.line scratch))
    unfolding opens with_answer
    opens_kept scratch =
        let s = n.end.seat in
        let P : Sending ℕ → Type 0 = λ x. After open_link (acted_sending opened n x) in
        let first : Offered m a (first_log_in s) = record { parameters = v.here.offer; count = omega arith } in
        let fs = log_in_frame s.side (first_log_in s) ∷ [] in
        cond_both (roomy n.store scratch) _ _ P
        (λ _. cond_both (initial s.state) _ _ P
        (λ _. goes_out (record { seat = opened-seat s; outstanding = n.end.outstanding }) fs refl refl
        (record { offer = v.here.offer; latest = first; far = v.here.far; agreed = λ z. absurd (not_login z) })
        (clean_log_in s.side (first_log_in s) bd.here first, tt) (way_puts_forward fs (refl, tt) v.out) (refl, tt))
        (λ _. (ins, outs, v)))
        (λ _. (ins, outs, v))

    -- timeout
    resends_kept : (scratch : List ℕ) (fs : List Content) → AllByRecursion (Clean m a) fs
        → Way m.offset p.accepted p.cleared (sender n.end) f.past.handed (receiver f.end) (puts outs fs) ins
        → AllByRecursion (λ q. confirms q ≡ false) fs → After timeout (acted_sending timed_out n (resends k fs n.end f.line scratch))
    unfolding with_answer
    resends_kept scratch [] clean out idles = (ins, outs, v)
    resends_kept scratch (x ∷ xs) clean out idles =
        let s = n.end.seat in
        cond_both (leb 3 s.row) _ _ (λ (y : Sending ℕ). After timeout (acted_sending timed_out n y))
        (λ _. out_silent (record { seat = moved LoggedOut s; outstanding = n.end.outstanding }) refl refl (out_ok s v.here))
        (λ _. goes_out (record { seat = with_row (s.row + 1) s; outstanding = n.end.outstanding }) (x ∷ xs) refl refl v.here clean out idles)

    latest_kept : (scratch : List ℕ) (o : Option Latest) → Known m a o → After timeout (acted_sending timed_out n (resends k (latest_frames n.end.seat.side o) n.end f.line scratch))
    unfolding with_answer
    latest_kept scratch None h = (ins, outs, v)
    latest_kept scratch (Some l) h =
        let fs = log_in_frame n.end.seat.side l ∷ [] in
        resends_kept scratch fs (clean_log_in n.end.seat.side l bd.here h, tt) (way_puts_forward fs (refl, tt) v.out) (refl, tt)

    due_kept : (scratch : List ℕ) (state : State) → After timeout (acted_sending timed_out n (resends k (due state n.end) n.end f.line scratch))
    unfolding with_answer
    due_kept scratch Initial = (ins, outs, v)
    due_kept scratch Login = latest_kept scratch n.end.seat.talk.latest v.here.latest
    due_kept scratch LoggedIn =
        let left = All-drop Fit p.cleared p.accepted v.here_records in
        resends_kept scratch n.end.outstanding (rw v.out.waiting (frames_clean m a p.cleared (drop p.cleared p.accepted) left))
        (way_resend v.out) (rw v.out.waiting (frames_idle p.cleared (drop p.cleared p.accepted) left))
    due_kept scratch LoggedOut = (ins, outs, v)

    times_out_kept : (scratch : List ℕ) → After timeout (acted_sending timed_out n (times_out k n.end n.store f.line scratch))
    unfolding times_out with_answer
    times_out_kept scratch =
        let P : Sending ℕ → Type 0 = λ x. After timeout (acted_sending timed_out n x) in
        cond_both (roomy n.store scratch) _ _ P
        (λ _. cond_both (idle n.end.seat.state) _ _ P (λ _. (ins, outs, v)) (λ _. due_kept scratch n.end.seat.state))
        (λ _. (ins, outs, v))

    -- send
    enters_kept : (r : Record) → Fit r → length n.end.outstanding < m.offset
        → Stands k m a b (record { end = enters n.end (framed n.end.seat.flow.next r); line = n.line; past = record { accepted = p.accepted ++ r ∷ []; handed = p.handed; cleared = p.cleared } }) (far_with k f (framed n.end.seat.flow.next r ∷ []))
    enters_kept r ok room =
        let next = n.end.seat.flow.next in
        let byte : next < 256 = rw v.out.next (number_byte (length p.accepted)) in
        led_on law (enters n.end (framed next r)) n.line _ ins (framed next r ∷ []) v v.in_line v.in_clean v.here (clean_record next r byte ok, tt)
        (way_accept r room v.out) (way_puts_back (framed next r ∷ []) (record_idle next r ok.carried, tt) v.back)
        (All-push Fit p.accepted r v.here_records ok)

    send_kept : (tag : Tag) (payload : List ℕ) (scratch : List ℕ) → Bytes payload → After (send tag payload) (acted_sending sent n (sends_record k n.end tag payload n.store f.line scratch))
    unfolding sends_record with_answer
    send_kept tag payload scratch bytes =
        let e = n.end in
        let size = length payload in
        let frame : Content = record { heading = numbered tag e.seat.flow.next; payload = payload } in
        let P : Sending Sent → Type 0 = λ x. After (send tag payload) (acted_sending sent n x) in
        let Q : Result (Unit {0}) Refusal → Type 0 = λ r. P (sends_if k r e frame f.line scratch) in
        cond_both (roomy n.store scratch) _ _ P
        (λ _. cond_both (tag_in_range tag) _ _ Q
        (λ t. cond_both (leb size 512) _ _ Q
        (λ few. cond_both (logged_in e.seat.state) _ _ Q
        (λ st. cond_both (leb size e.seat.talk.offer.payload) _ _ Q
        (λ _. cond_both (ltb (length e.outstanding) e.seat.talk.offer.offset) _ _ Q
        (λ h.
        let w : e.seat.talk.offer.offset ≡ m.offset = ap (λ (q : Parameters). q.offset) (v.here.agreed (logged_in_is e.seat.state st)) in
        enters_kept (record { tag = tag; payload = payload }) (fit tag payload t few bytes) (omega (arith, w, ltb-true (length e.outstanding) e.seat.talk.offer.offset h)))
        (λ _. (ins, outs, v)))
        (λ _. (ins, outs, v)))
        (λ _. (ins, outs, v)))
        (λ _. (ins, outs, v)))
        (λ _. (ins, outs, v)))
        (λ _. (ins, outs, v))

    -- the same line, said otherwise
    relined : (line : List (List ℕ)) → line ≡ blocks k ins → Stands k m a b (record { end = n.end; line = line; past = p }) f
    relined line e = (
      ins,
      outs,
      record {
        here = v.here;
        there = v.there;
        in_line = e;
        out_line = v.out_line;
        in_clean = v.in_clean;
        out_clean = v.out_clean;
        out = v.out;
        back = v.back;
        here_records = v.here_records;
        there_records = v.there_records;
      },
    )

  -- the calls that take a block; what the block was read as, and the scratch
  module _ (act : Act) (g : Content) (gs outs : List Content) (v : Inv k m a b (place n p) f (g ∷ gs) outs) where
    abbrev ReadAs : List ℕ → Result Content Status → Type 0
    ReadAs s r =
        let x = receives_as k n.end r f.line in
        After act (acted_polling n (record { answer = Ok x.answer; end = x.end; incoming = blocks k gs; outgoing = x.line; scratch = s }))

    good_read : (scratch : List ℕ) → ReadAs (over (block k g) scratch) (Ok g)
    unfolding with_answer
    good_read scratch =
        let x = hears n.end g in
        subst (λ up. Left k law m a b (place n p) f g gs outs bd v x.end (replies x.end.seat g.heading x.heard) up (cleared_by x.heard))
        (sym (handed_there k law g v.in_clean.0.sized x.heard scratch))
        (hears_kept k law m a b (place n p) f g gs outs bd v)

    bad_read : (s : List ℕ) (r : Result Content Status) → Bad r → ReadAs s r
    unfolding with_answer
    bad_read s r h = subst (ReadAs s) (sym h.2) (bad_block_kept k law m a b (place n p) f g gs outs bd v h.0 h.1)

    -- the block at the front of the scratch, changed on its way
    changed_read : (change : ℕ → List ℕ → List ℕ) (scratch : List ℕ)
        → (change (length (block k g)) (over (block k g) scratch) ≡ over (block k g) scratch) ⊎ Bad (read_block k.width k.value (take (length (block k g)) (change (length (block k g)) (over (block k g) scratch))))
        → ReadAs (change (length (block k g)) (over (block k g) scratch)) (read_block k.width k.value (take (length (block k g)) (change (length (block k g)) (over (block k g) scratch))))
    changed_read change scratch (inl e) =
        let s = over (block k g) scratch in
        let reads : read_block k.width k.value (take (length (block k g)) s) ≡ Ok g = ap (read_block k.width k.value) (block_there k law g v.in_clean.0.sized scratch) ∙ read_sealed k law g v.in_clean.0.sized in
        subst (λ (t : List ℕ). ReadAs t (read_block k.width k.value (take (length (block k g)) t))) (sym e) (subst (ReadAs s) (sym reads) (good_read scratch))
    changed_read change scratch (inr h) = bad_read (change (length (block k g)) (over (block k g) scratch)) _ h

  -- a change that leaves a block as it was or makes it bad
  abbrev Mild : (ℕ → List ℕ → List ℕ) → Type 0
  Mild change =
      (g : Content) → Sized g → (scratch : List ℕ) →
      (change (length (block k g)) (over (block k g) scratch) ≡ over (block k g) scratch)
      ⊎ Bad (read_block k.width k.value (take (length (block k g)) (change (length (block k g)) (over (block k g) scratch))))

  taken_kept : (act : Act) (change : ℕ → List ℕ → List ℕ) (ins outs : List Content) → Inv k m a b (place n p) f ins outs → Mild change → (scratch : List ℕ) → leb 520 (length scratch) ≡ true
      → After act (acted_polling n (polls_taken k change n.end (take_answer n.line scratch) (take_after n.line scratch) f.line (take_buffer n.line scratch)))
  unfolding receives with_answer
  taken_kept act change [] outs v mild scratch room =
      subst (λ (l : List (List ℕ)). After act (acted_polling n (polls_taken k change n.end (take_answer l scratch) (take_after l scratch) f.line (take_buffer l scratch)))) (sym v.in_line)
      (rw room (relined [] outs v [] refl))
  taken_kept act change (g ∷ gs) outs v mild scratch room =
      subst (λ (l : List (List ℕ)). After act (acted_polling n (polls_taken k change n.end (take_answer l scratch) (take_after l scratch) f.line (take_buffer l scratch)))) (sym v.in_line)
      (first_taken (λ r l t. After act (acted_polling n (polls_taken k change n.end r l f.line t))) (block k g) (blocks k gs) scratch room
      (changed_read act g gs outs v change scratch (mild g v.in_clean.0.sized scratch)))

  open_kept : (act : Act) (change : ℕ → List ℕ → List ℕ) (ins outs : List Content) → Inv k m a b (place n p) f ins outs → Mild change → (scratch : List ℕ) → roomy n.store scratch ≡ true
      → After act (acted_polling n (polls_open k change n.end n.line f.line scratch))
  unfolding with_answer
  open_kept act change ins outs v mild scratch room =
      cond_both (logged_out n.end.seat.state) _ _ (λ (x : Polling). After act (acted_polling n x)) (λ _. (ins, outs, v))
      (λ _. taken_kept act change ins outs v mild scratch (and_parts (leb 520 (length scratch)) (leb 4096 n.store) room).0)

  polls_kept : (ins outs : List Content) → Inv k m a b (place n p) f ins outs → (scratch : List ℕ) → After poll (acted_polling n (polls k n.end n.store n.line f.line scratch))
  unfolding polls with_answer
  polls_kept ins outs v scratch =
      cond_both (roomy n.store scratch) _ _ (λ (x : Polling). After poll (acted_polling n x)) (λ room. open_kept poll unchanged ins outs v (λ g s t. inl refl) scratch room) (λ _. (ins, outs, v))

  spoils_kept : (q d : ℕ) (ins outs : List Content) → Inv k m a b (place n p) f ins outs → (scratch : List ℕ) → After (spoil q d) (acted_polling n (spoils k q d n.end n.store n.line f.line scratch))
  unfolding spoils with_answer
  spoils_kept q d ins outs v scratch =
      let P : Polling → Type 0 = λ (x : Polling). After (spoil q d) (acted_polling n x) in
      cond_both (roomy n.store scratch) _ _ P
      (λ room. cond_both (eqb d 0) _ _ P (λ _. (ins, outs, v)) (λ _. open_kept (spoil q d) (spoiled q d) ins outs v (λ g s t. spoiled_block k law g s q d t) scratch room))
      (λ _. (ins, outs, v))

  lost_kept : (ins outs : List Content) → Inv k m a b (place n p) f ins outs → (scratch : List ℕ) → leb 520 (length scratch) ≡ true
      → Stands k m a b (record { end = n.end; line = take_after n.line scratch; past = p }) f
  lost_kept [] outs v scratch room =
      subst (λ (l : List (List ℕ)). Stands k m a b (record { end = n.end; line = take_after l scratch; past = p }) f) (sym v.in_line) (rw room (relined [] outs v [] refl))
  lost_kept (g ∷ gs) outs v scratch room =
      subst (λ (l : List (List ℕ)). Stands k m a b (record { end = n.end; line = take_after l scratch; past = p }) f) (sym v.in_line)
      (first_taken (λ r l t. Stands k m a b (record { end = n.end; line = l; past = p }) f) (block k g) (blocks k gs) scratch room (
        gs,
        outs,
        record {
          here = v.here;
          there = v.there;
          in_line = refl;
          out_line = v.out_line;
          in_clean = v.in_clean.1;
          out_clean = v.out_clean;
          out = way_rest_back v.out;
          back = way_rest_forward v.back;
          here_records = v.here_records;
          there_records = v.there_records;
        },
      ))

  loses_kept : (ins outs : List Content) → Inv k m a b (place n p) f ins outs → (scratch : List ℕ) → After lose (acted_losing n f.line (loses n.line scratch))
  unfolding with_answer
  loses_kept ins outs v scratch =
      cond_both (leb 520 (length scratch)) _ _ (λ (x : Losing). After lose (acted_losing n f.line x)) (λ room. lost_kept ins outs v scratch room) (λ _. (ins, outs, v))

  pub acts_kept : (act : Act) (scratch : List ℕ) → OfBytes act → Stands k m a b (place n p) f → After act (acts k act n f.line scratch)
  unfolding acts
  acts_kept open_link scratch t (ins, outs, v) = opens_kept ins outs v scratch
  acts_kept (send tag payload) scratch t (ins, outs, v) = send_kept ins outs v tag payload scratch t
  acts_kept poll scratch t (ins, outs, v) = polls_kept ins outs v scratch
  acts_kept timeout scratch t (ins, outs, v) = times_out_kept ins outs v scratch
  acts_kept lose scratch t (ins, outs, v) = loses_kept ins outs v scratch
  acts_kept (spoil q d) scratch t (ins, outs, v) = spoils_kept q d ins outs v scratch
