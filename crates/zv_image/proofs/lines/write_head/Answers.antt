use Rattle.std.proofs.Common.{◌≡◌, ◌∙◌, Bool, true, false, [], ap, refl, rules, sym, append-nil, if◌then◌else◌}
use Rattle.hex.specs.Hex.{encode_lower, encode_with}
use Rattle.zv_command.proofs.Sending.{sends_as, sends_later}
use Rattle.zv_map2d.specs.Formats.{head, is_any_wide}
use Rattle.zv_image.proofs.lines.write_head.Goals as goal

pub returns-then-not-is_any : goal.returns-then-not-is_any
unfolding encode_with
returns-then-not-is_any g c =
    let none : is_any_wide c.args.lists ≡ false = search rules in
    sends_as (ap (λ (b : Bool). encode_lower (if b then head c.args.lists else [])) none) (sends_later refl (sym (append-nil _)))

pub returns : goal.returns
returns g c =
    let any : is_any_wide c.args.lists ≡ true = search rules in
    sends_as (ap (λ (b : Bool). encode_lower (if b then head c.args.lists else [])) any ∙ ap encode_lower (sym c.head.ensures)) c.write_hex.ensures
