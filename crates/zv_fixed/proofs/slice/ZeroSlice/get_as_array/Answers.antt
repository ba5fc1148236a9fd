use Rattle.std.proofs.Common.{◌≡◌, refl, rules}
use Rattle.zv_fixed.specs.Views.{values_in}
use Rattle.zv_fixed.proofs.Calls.{made_of}
use Rattle.zv_fixed.proofs.slice.ZeroSlice.get_as_array.Goals as goal

pub returns : goal.returns
returns g c =
    made_of _ (λ f. f.0.now ≡ c.args.self) (values_in c.args.self) c.from_fn.result (λ f q i y keeps called. (search rules, search rules)) g.row.N _ refl
    c.from_fn.ensures.items (search rules)
