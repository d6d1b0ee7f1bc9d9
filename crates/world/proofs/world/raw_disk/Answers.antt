use Rattle.std.proofs.Common.{◌≡◌, ◌*◌, ◌/◌, length, vec_items, sym, ap, ◌∙◌}
use Rattle.device.proofs.Whole.{length_whole}
use Rattle.world.proofs.Stated.{raw_blocks}
use Rattle.world.proofs.world.raw_disk.Goals as goal

pub returns : goal.returns
returns c =
    let is : vec_items c.new.result.bytes ≡ vec_items c.in_ok-bytes.bytes = ap vec_items c.new.ensures.0 in
    let long : length (vec_items c.in_ok-bytes.bytes) ≡ 1024 * c.blocks-2.result = sym c.in_ok-bytes.bytes.ok.0 ∙ c.in_ok-bytes.ensures.len in
    length_whole _ ∙ ap (λ d. length d / 1024) is ∙ ap (λ n. n / 1024) long ∙ raw_blocks c.blocks-2.result ∙ c.blocks-2.ensures
