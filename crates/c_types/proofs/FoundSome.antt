-- Whether something is found, before and behind a map.
use Rattle.std.proofs.Common.{◌≡◌, true, false, Option, Some, None, option_map, is_some, ap}

pub found_some : {A B : Type 0} (f : A → B) (o : Option A) (p : Option B) → option_map f o ≡ p
    → is_some o ≡ elim p [ None ↦ false | Some found ↦ true ]
found_some {B = B} f None p is = ap (λ (q : Option B). elim q [ None ↦ false | Some found ↦ true ]) is
found_some {B = B} f (Some x) p is = ap (λ (q : Option B). elim q [ None ↦ false | Some found ↦ true ]) is
