-- Lemmas on told bytes: some added after others, and a front of what was to be added.
use Rattle.std.proofs.Common.{◌≡◌, ℕ, ◌+◌, List, ◌++◌, Option, Some, None, length, take, drop, refl, sym, ap, ◌∙◌, append_assoc}
use Rattle.std.proofs.Common.{length-append, arith}
use Rattle.std.proofs.Math.Seq.{take-add, take-append-add}
use Rattle.std.proofs.lemmas.Slice.{between_to_end}
use Rattle.std.specs.List.{between}
use Rattle.io_ports.specs.Bytes.{after_held, AppendsFront}

-- two pieces, one after the other
pub after_held-append : (held : Option (List ℕ)) (first second : List ℕ)
    → after_held (after_held held first) second ≡ after_held held (first ++ second)
after_held-append None first second = refl
after_held-append (Some front) first second = ap (λ bytes. Some bytes) (append_assoc front first second)

-- a front of the bytes, and then some of those that follow it
pub after_held-more : (old mid new : Option (List ℕ)) (bytes : List ℕ) (written count : ℕ) → mid ≡ after_held old (take written bytes)
    → new ≡ after_held mid (take count (between written (length bytes) bytes)) → new ≡ after_held old (take (written + count) bytes)
after_held-more old mid new bytes written count was now =
    now ∙ ap (λ held. after_held held (take count (between written (length bytes) bytes))) was
    ∙ ap (λ rest. after_held (after_held old (take written bytes)) (take count rest))
    (between_to_end bytes written (length bytes) (omega arith))
    ∙ after_held-append old (take written bytes) (take count (drop written bytes))
    ∙ ap (after_held old) (sym (take-add written count bytes))

-- all of the first bytes, and then a front of the second, is a front of both
pub front_after : (old mid new : Option (List ℕ)) (first second : List ℕ) → mid ≡ after_held old first → AppendsFront mid new second
    → AppendsFront old new (first ++ second)
front_after old mid new first second was (count, below, now) = (
  length first + count,
  omega (arith, length-append first second),
  now ∙ ap (λ held. after_held held (take count second)) was ∙ after_held-append old first (take count second)
      ∙ ap (after_held old) (sym (take-append-add first second count)),
)
