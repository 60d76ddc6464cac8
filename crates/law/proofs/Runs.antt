-- Every run of a fresh link keeps the invariant, so the law holds after it, and after one call more.
use Rattle.std.proofs.Common.{◌≡◌, ℕ, List, [], ◌∷◌, ◌++◌, length, drop, fold, sym, refl, ap, ◌∙◌, subst, arith}
use Rattle.std.proofs.ByRecursion.{All-push}
use Rattle.std.proofs.lemmas.List.{take-append-drop}
use Rattle.std.proofs.lemmas.Bool.{false≢true}
use Rattle.block_check.specs.Law.{Code, Lawful}
use Rattle.login.specs.declared.Parameters.{Parameters}
use Rattle.rules.specs.declared.seat.Side.{Side}
use Rattle.rules.specs.declared.seat.Side.TheVariants.{Controller, Sled}
use Rattle.rules.specs.LogIns.{smaller}
use Rattle.rules.specs.Records.{logged_in}
use Rattle.rules.specs.Ends.{fresh}
use Rattle.rules.specs.Links.{Act, World, Call, journal, run, stepped, entry, fresh_link}
use Rattle.law.specs.Journals.{Record, Past, nothing, with_entry}
use Rattle.law.specs.Law.{OneWay, ask, Faithful, OfBytes, CallsOfBytes, RunsFaithful, CallsLeadOn}
use Rattle.law.proofs.Ways.{length-waiting, way_start}
use Rattle.law.proofs.Talks.{Bounds, bounds, bounds_swap, within_start, SeatOk}
use Rattle.law.proofs.Polls.{Place, Stands, swapped}
use Rattle.law.proofs.Calls.{place, acts_kept}

abbrev Sound : Code → Parameters → Parameters → Parameters → World → Past → Past → Type 0
Sound k m a b w p q = Stands k m a b (place w.controller p) (place w.sled q)

module _ (k : Code) (law : Lawful k.width k.value) (m a b : Parameters) (bd : Bounds m a b) where
  step_kept : (w : World) (p q : Past) (side : Side) (act : Act) (scratch : List ℕ) → OfBytes act → Sound k m a b w p q →
      let c : Call = record { side = side; act = act; scratch = scratch } in
      Sound k m a b (stepped k w c) (with_entry Controller p (entry k w c)) (with_entry Sled q (entry k w c))
  unfolding stepped
  step_kept w p q Controller act scratch t s = acts_kept k law m a b w.controller p (place w.sled q) bd act scratch t s
  step_kept w p q Sled act scratch t s =
      swapped k m b a _ _ (acts_kept k law m b a w.sled q (place w.controller p) (bounds_swap bd) act scratch t (swapped k m a b (place w.controller p) (place w.sled q) s))

  run_kept : (calls : List Call) → CallsOfBytes calls → (w : World) (p q : Past) → Sound k m a b w p q →
      Sound k m a b (run k w calls) (fold (with_entry Controller) p (journal k w calls)) (fold (with_entry Sled) q (journal k w calls))
  unfolding run journal
  run_kept [] t w p q s = s
  run_kept (c ∷ cs) t w p q s =
      run_kept cs t.1 (stepped k w c) (with_entry Controller p (entry k w c)) (with_entry Sled q (entry k w c)) (step_kept w p q c.side c.act c.scratch t.0 s)

fresh_ok : {m a b : Parameters} (side : Side) → Bounds m a b → SeatOk m a (fresh side a).seat
fresh_ok side x = record { offer = within_start x; latest = tt; far = λ z. absurd (false≢true z); agreed = λ z. absurd (false≢true (ap logged_in z)) }

fresh_sound : (k : Code) (m a b : Parameters) (store_a store_b : ℕ) → Bounds m a b → Sound k m a b (fresh_link a b store_a store_b) nothing nothing
fresh_sound k m a b store_a store_b x = (
  [],
  [],
  record {
    here = fresh_ok Controller x;
    there = fresh_ok Sled (bounds_swap x);
    in_line = refl;
    out_line = refl;
    in_clean = tt;
    out_clean = tt;
    out = way_start;
    back = way_start;
    here_records = tt;
    there_records = tt;
  },
)

one_way : (k : Code) (m a b : Parameters) (n f : Place) → Stands k m a b n f → OneWay m (ask n.end) n.past f.past
one_way k m a b n f (ins, outs, v) =
    let w = v.out in
    let len = length-waiting w in
    let all = n.past.accepted in
    let got = f.past.handed in
    record {
      delivered = (drop (length got) all, sym (ap (λ (l : List Record). l ++ drop (length got) all) w.front ∙ take-append-drop (length got) all));
      accounted = omega (arith, w);
      cleared = w.cleared_handed;
      handed = w.handed_accepted;
      window = omega (arith, w);
      agreed = v.here.agreed;
    }

pub runs_faithful : RunsFaithful
runs_faithful k law a b x y store_a store_b calls t =
    let m = smaller a b in
    let s = run_kept k law m a b (bounds a b x y) calls t (fresh_link a b store_a store_b) nothing nothing (fresh_sound k m a b store_a store_b (bounds a b x y)) in
    record { down = one_way k m a b _ _ s; up = one_way k m b a _ _ (swapped k m a b _ _ s) }

-- one call more
run_more : (k : Code) (w : World) (cs : List Call) (c : Call) → run k w (cs ++ c ∷ []) ≡ stepped k (run k w cs) c
unfolding run
run_more k w [] c = refl
run_more k w (d ∷ ds) c = run_more k (stepped k w d) ds c

journal_more : (k : Code) (w : World) (cs : List Call) (c : Call) → journal k w (cs ++ c ∷ []) ≡ journal k w cs ++ entry k (run k w cs) c ∷ []
unfolding run journal
journal_more k w [] c = refl
journal_more k w (d ∷ ds) c = ap (λ l. entry k w d ∷ l) (journal_more k (stepped k w d) ds c)

pub calls_lead_on : CallsLeadOn
calls_lead_on k law w c t a b x y written r =
    let start = fresh_link a b r.store_a r.store_b in
    let calls = r.calls ++ c ∷ [] in
    let bytes : CallsOfBytes calls = All-push (λ (d : Call). OfBytes d.act) r.calls c r.of_bytes t in
    let wrote : written ++ entry k w c ∷ [] ≡ journal k start calls =
    ap (λ l. l ++ entry k w c ∷ []) r.journal_is ∙ ap (λ z. journal k start r.calls ++ entry k z c ∷ []) r.world_is ∙ sym (journal_more k start r.calls c) in
    let led : stepped k w c ≡ run k start calls = ap (λ z. stepped k z c) r.world_is ∙ sym (run_more k start r.calls c) in
    let holds = runs_faithful k law a b x y r.store_a r.store_b calls bytes in (
      record { store_a = r.store_a; store_b = r.store_b; calls = calls; of_bytes = bytes; journal_is = wrote; world_is = led },
      subst (λ l. Faithful a b l (stepped k w c)) (sym wrote) (subst (Faithful a b (journal k start calls)) (sym led) holds),
    )
