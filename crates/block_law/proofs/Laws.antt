-- The theorems: what is read of a whole block is its content, a block is whole if it was built or is read, and of two
-- blocks that differ in one byte only one is whole.
use Rattle.std.proofs.Common.{◌≤◌, length, is_ok, Ok, sym, ap, ◌∙◌, subst, ⊎_elim}
use Rattle.std.proofs.lemmas.Bool.{cases_Bool}
use Rattle.block.specs.Form.{sealed, in_range}
use Rattle.block.specs.Reading.{Content, read_block}
use Rattle.block_law.specs.Theorems.{ReadBuilt, BuiltRead, ChangeShows}
use Rattle.block_law.proofs.Agreement.{sealed_whole, sealed_content, sealed_of, buildable}
use Rattle.block_law.proofs.Apart.{never_both}
use Rattle.block_law.proofs.Seal.{sealed_bytes}
use Rattle.block_law.proofs.Whole.{read_whole, whole_read, content_read}

pub read_built : ReadBuilt
read_built w value law h payload r s = read_whole w value (sealed w value h payload) (sealed_whole w value h payload law.few s) ∙ ap (λ x. Ok x) (sealed_content w value h payload r)

pub built_read : BuiltRead
built_read w value law bs x p e =
    let is = content_read w value bs x e in
    let a = whole_read w value bs (ap is_ok e) in
    let can = buildable w value bs p a in (
      ap (λ (y : Content). in_range y.heading) is ∙ can.0,
      subst (λ (y : Content). length y.payload ≤ 512) (sym is) can.1,
      ap (λ (y : Content). sealed w value y.heading y.payload) is ∙ sealed_of w value bs p a,
    )

-- the sealed block is whole, so the changed one is not
pub change_shows : ChangeShows
change_shows w value law h payload f s b i changed q d =
    let p = sealed_bytes w value law h payload f.ranged f.number f.exchange s b in
    ⊎_elim (λ e. absurd (never_both w value law (sealed w value h payload) changed p q i d (sealed_whole w value h payload law.few s) (whole_read w value changed e)))
    (λ e. e) (cases_Bool (is_ok (read_block w value changed)))
