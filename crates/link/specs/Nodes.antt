-- What a node stands for, and what a call at it did as one value.
use Rattle.std.specs.Prelude.{◌≡◌, ℕ, List, vec_items, vec_len}
use Rattle.line.specs.declared.Line.{Ghosts}
use Rattle.end.specs.Views.{view}
use Rattle.rules.specs.Links.{Node as Meant, Answer, Acted}
use Rattle.link.specs.declared.node.Node.{Node}

abbrev pub node : {L : Type 0} → Ghosts L → Node L → Meant
node g n = record { end = view n.end (vec_items n.store); line = g.waiting n.line; store = vec_len n.store }

abbrev pub did : Answer → Meant → List (List ℕ) → List ℕ → Acted
did a n outgoing scratch = record { answer = a; near = n; outgoing = outgoing; scratch = scratch }

-- the end, and the bytes of its store, are as they were
abbrev pub Still : {L : Type 0} → Node L → Node L → Type 0
Still before later = (later.end ≡ before.end) × (vec_items later.store ≡ vec_items before.store)
