use Rattle.std.proofs.Common.{◌++◌, ◌∷◌, [], List, ℕ, ap, ◌∙◌}
use Rattle.coding.specs.Fixed.{fixed32}
use Rattle.coding.specs.Checksum.{checksum, masked}
use Rattle.logfile.proofs.Headers.{put_together}
use Rattle.logfile.proofs.fragment.put_fragment.Goals as goal

pub returns : goal.returns
returns c =
    let out = c.args.out.now.items in
    let bytes = c.args.part.now in
    let number = c.number_of-number.ensures in
    let sum = c.mask.ensures ∙ ap masked (c.crc32c.ensures ∙ ap (λ (n : ℕ). checksum (n ∷ bytes)) number) in
    put_together out c.put_fixed32.new.out.items c.extend_from_slice.new.self.items c.push.new.self.items c.extend_from_slice-2.new.self.items c.args.kind bytes
    (c.in_ok-put_fixed32.ensures.ok ∙ ap (λ (m : ℕ). out ++ fixed32 m) sum)
    (c.in_ok-extend_from_slice.ensures.items ∙ ap (λ (v : List ℕ). c.put_fixed32.new.out.items ++ v) c.write_u16.ensures)
    (c.in_ok-push.ensures.items ∙ ap (λ (n : ℕ). c.extend_from_slice.new.self.items ++ n ∷ []) number)
    c.in_ok-extend_from_slice-2.ensures.items
