use Rattle.std.proofs.Common.{◌≡◌, Bool, true, false, refl, subst}
use Rattle.std.proofs.lemmas.Cmp.{tied_itself}
use Rattle.std.specs.declared.cmp.Ordering.TheVariants.{Equal}
use Rattle.zv_forms.proofs.laws.maps_of_values_are_read_again.Goals as goal

split : {A : Type 0} (b : Bool) → (b ≡ true → A) → (b ≡ false → A) → A
split true named others = named refl
split false named others = others refl

-- keys that are the same compare Equal
pub returns : goal.returns
returns g c rule d is =
    split g.K.JsonValue.KEY (λ named. c.maps_are_read_again.ensures.named rule d named is)
    (λ other. c.maps_are_read_again.ensures.others
    (λ a x same. subst (λ y. g.K.ZvOrd.cmp a y ≡ Equal) same (tied_itself g.met.K.ZvOrd.total a)) rule d other is)
