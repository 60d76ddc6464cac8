use Rattle.std.proofs.Common.{◌≡◌, ◌/◌, ◌%◌, [], ◌∷◌, arith, rules}
use Rattle.block.proofs.Checking.{high_low}
use Rattle.block.proofs.Sealing.{sealing}
use Rattle.block.proofs.half.HalfMade.seal.Goals as goal

pub returns : goal.returns
returns g c =
    let n = c.args.self.size in
    let two : c.to_be_bytes.result ≡ (n / 256) ∷ (n % 256) ∷ [] = high_low n c.to_be_bytes.result (omega arith) c.to_be_bytes.ensures in
    let s = sealing g.K.Check.code.width g.K.Check.code.value n c.args.buf.now _ _ (omega arith) (rw two at c.paste.ensures) c.close-len.ensures.after in
    record { answer = search rules; after = search (rules, s) }
