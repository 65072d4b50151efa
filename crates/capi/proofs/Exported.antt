-- What an exported call answers and leaves, from what the call itself does.
use mathlib.Core.Path.{◌≡◌, sym, ap, ◌∙◌}

-- the answer k, which is v and which the call's contract gives, in numbers
pub told : {K R : Type 0} (numbers : K → R) {k v a : K} {r : R} → r ≡ numbers v → k ≡ v → k ≡ a → r ≡ numbers a
told numbers e g h = e ∙ ap numbers (sym g ∙ h)
