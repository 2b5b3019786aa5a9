-- A name that is put into a map, and is not the first one with its digest.
use Rattle.std.proofs.Common.{◌≡◌, ℕ, Bool, true, false, List, Option, Some, None, refl, sym, ap, ◌∙◌, if◌then◌else◌}
use Rattle.std.proofs.lemmas.Bool.{true≢false}
use Rattle.std.proofs.lemmas.Map.Text.{btree_map_updates_str}
use Rattle.std.proofs.lemmas.Slice.Eq.{bytes_eq-Decides}
use Rattle.std.specs.Borrow.{Bor}
use Rattle.std.specs.BTreeMap.{BTreeMap, UpdatesBy, get_by}
use Rattle.std.specs.Cmp.Lexicographic.{slice_cmp}
use Rattle.std.specs.Ordering.{nat_cmp}
use Rattle.std.specs.Str.{bytes_eq}
use Rattle.c_types_names.specs.NameMap.{first_or, is_first, or_last, digest}
use Rattle.c_types_names.specs.declared.name_map.First.{First}

module _ {X : Type 0} (name : List ℕ) (thing : X) (firsts : BTreeMap ℕ (First X)) (old new : BTreeMap (Bor (List ℕ)) X)
    (updates : UpdatesBy (λ x y. slice_cmp nat_cmp x.now y.now) (λ k. slice_cmp nat_cmp name k.now) old new (Some thing))
    (is : is_first (get_by (nat_cmp (digest name)) firsts) name (get_by (λ k. slice_cmp nat_cmp name k.now) old) ≡ false) where
  -- it is not the first one with its digest
  not_first : (n : List ℕ) (first : First X) (b : Bool) → get_by (nat_cmp (digest n)) firsts ≡ Some first
      → bytes_eq first.name.now n ≡ true → bytes_eq name n ≡ b → b ≡ false
  not_first n first false at has here = refl
  not_first n first true at has here =
      let same : name ≡ n = (bytes_eq-Decides name n).0 here in
      absurd (true≢false (
      sym ((bytes_eq-Decides first.name.now name).1 ((bytes_eq-Decides first.name.now n).0 has ∙ sym same))
      ∙ ap (λ o. is_first o name (get_by (λ k. slice_cmp nat_cmp name k.now) old))
      (sym (ap (λ m. get_by (nat_cmp (digest m)) firsts) same ∙ at))
      ∙ is
      ))

  pub other_put : (n : List ℕ)
      → first_or (get_by (nat_cmp (digest n)) firsts) n (get_by (λ k. slice_cmp nat_cmp n k.now) new)
      ≡ or_last (first_or (get_by (nat_cmp (digest n)) firsts) n (get_by (λ k. slice_cmp nat_cmp n k.now) old)) (bytes_eq name n) thing
  other_put n = by_first (get_by (nat_cmp (digest n)) firsts) refl
    where
      found : BTreeMap (Bor (List ℕ)) X → Option X
      found others = get_by (λ k. slice_cmp nat_cmp n k.now) others

      put : found new ≡ or_last (found old) (bytes_eq name n) thing
      put = btree_map_updates_str name old new (Some thing) updates n

      by_name : (first : First X) (b : Bool) → get_by (nat_cmp (digest n)) firsts ≡ Some first → bytes_eq first.name.now n ≡ b
          → (if b then Some first.thing else found new) ≡ or_last (if b then Some first.thing else found old) (bytes_eq name n) thing
      by_name first true at has =
          ap (λ b. or_last (Some first.thing) b thing) (sym (not_first n first (bytes_eq name n) at has refl))
      by_name first false at has = put

      by_first : (o : Option (First X)) → get_by (nat_cmp (digest n)) firsts ≡ o
          → first_or o n (found new) ≡ or_last (first_or o n (found old)) (bytes_eq name n) thing
      by_first None at = put
      by_first (Some first) at = by_name first (bytes_eq first.name.now n) at refl
