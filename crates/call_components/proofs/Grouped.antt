-- Classes by kind, made by taking one number after the other.
use Rattle.std.proofs.Common.{◌≡◌, ◌≢◌, ℕ, zero, suc, ◌+◌, ◌<◌, ◌==◌, Bool, true, false, cond, List, [], ◌∷◌, ◌++◌, length, map, take}
use Rattle.std.proofs.Common.{replicate, get_or, set, slice_get, Some, None, Option, ⊎_elim, refl, sym, ap, ◌∙◌, subst, arith, All}
use Rattle.std.proofs.Common.{AllPairs, filter, append-nil}
use Rattle.std.specs.Prelude.{slice_index_or}
use Rattle.std.proofs.lemmas.Bool.{cases_lt}
use Rattle.std.proofs.lemmas.Bool.Decides.{Decides-eqb}
use Rattle.std.proofs.lemmas.List.{length-map, length-set, get_or-map, get_or-set_same, get_or-set_other, get_or-take, length-take-le}
use Rattle.std.proofs.lemmas.List.{same_lists, take_more}
use Rattle.std.proofs.lemmas.List.Elements.{All-head, All-tail, filter-append}
use Rattle.std.proofs.lemmas.List.Kept.{AllPairs-filter}
use Rattle.std.proofs.lemmas.Option.{get_or_from_slice_get, slice_get_within, slice_get-get_or}
use Rattle.component_keys.specs.Components.{holds, is_first}
use Rattle.component_keys.proofs.Basics.{at_end, at_left, not_none, some_same}
use Rattle.component_keys.proofs.Ordered.{held_at}
use Rattle.component_keys.proofs.Reach.{holds_at, holds_cases}
use Rattle.component_keys.proofs.Whole.{filtered, in_filter_holds}
use Rattle.call_components.specs.Tables.{class_in, put_list, put_slot, same_kind}

pub put_slot_length : (o : Option ℕ) (kind place : ℕ) (slots : List (Option ℕ)) → length (put_slot o kind place slots) ≡ length slots
put_slot_length None kind place slots = length-set slots kind (Some place)
put_slot_length (Some old) kind place slots = refl

all_same : {X : Type 0} (n place : ℕ) (x : X) → slice_index_or (replicate n x) place x ≡ x
all_same zero place x = refl
all_same (suc n) zero x = refl
all_same (suc n) (suc place) x = all_same n place x

module _ (kinds : List ℕ) where
  abbrev kind : ℕ → ℕ
  kind number = slice_index_or kinds number 0

  self : (number : ℕ) → same_kind kinds number number ≡ true
  self number = (Decides-eqb (kind number) (kind number)).1 refl

  abbrev leads_in : List ℕ → ℕ → Bool
  leads_in xs number = is_first number (class_in kinds xs number)

  -- the first of each class
  abbrev pub leads : List ℕ → List ℕ
  leads xs = filter (leads_in xs) xs

  class_push : (xs : List ℕ) (x number : ℕ) →
      class_in kinds (xs ++ x ∷ []) number ≡ class_in kinds xs number ++ cond (same_kind kinds number x) (x ∷ []) []
  class_push xs x number = filter-append (same_kind kinds number) xs (x ∷ [])

  first_kept : (number : ℕ) (c d : List ℕ) → holds c number ≡ true → is_first number (c ++ d) ≡ is_first number c
  first_kept number [] d h = cc
  first_kept number (first ∷ others) d h = refl

  kept : (xs : List ℕ) (x number : ℕ) → holds xs number ≡ true → leads_in (xs ++ x ∷ []) number ≡ leads_in xs number
  kept xs x number h =
      ap (is_first number) (class_push xs x number)
      ∙ first_kept number (class_in kinds xs number) (cond (same_kind kinds number x) (x ∷ []) [])
      (in_filter_holds (same_kind kinds number) xs number h (self number))

  all_held : (xs : List ℕ) → All (λ number. holds xs number ≡ true) xs
  all_held xs k d lt = holds_at xs k (get_or xs k d) (slice_get-get_or xs k d lt)

  filter_same : (p q : ℕ → Bool) (xs : List ℕ) → All (λ number. p number ≡ q number) xs → filter p xs ≡ filter q xs
  filter_same p q [] all = refl
  filter_same p q (x ∷ xs) all = rw (All-head (λ n. p n ≡ q n) x xs all, filter_same p q xs (All-tail (λ n. p n ≡ q n) x xs all)) refl

  leads_push : (xs : List ℕ) (x : ℕ) → leads (xs ++ x ∷ []) ≡ leads xs ++ cond (leads_in (xs ++ x ∷ []) x) (x ∷ []) []
  leads_push xs x =
      filter-append (leads_in (xs ++ x ∷ [])) xs (x ∷ []) ∙
      ap (λ l. l ++ cond (leads_in (xs ++ x ∷ []) x) (x ∷ []) [])
      (filter_same (leads_in (xs ++ x ∷ [])) (leads_in xs) xs (λ k d lt. kept xs x (get_or xs k d) (all_held xs k d lt)))

  class_same : (xs : List ℕ) (one other : ℕ) → kind one ≡ kind other → class_in kinds xs one ≡ class_in kinds xs other
  class_same xs one other same = ap (λ k. filter (λ number. k == kind number) xs) same

  -- one of the kind leads its class
  lead_of : (xs : List ℕ) (x y : ℕ) → holds xs y ≡ true → kind y ≡ kind x →
      (lead : ℕ) × (holds (leads xs) lead ≡ true) × (kind lead ≡ kind x)
  lead_of xs x y h same = by_class (class_in kinds xs x) refl
    where
      in_class : holds (class_in kinds xs x) y ≡ true
      in_class = in_filter_holds (same_kind kinds x) xs y h ((Decides-eqb (kind x) (kind y)).1 (sym same))

      by_class : (c : List ℕ) → class_in kinds xs x ≡ c → (lead : ℕ) × (holds (leads xs) lead ≡ true) × (kind lead ≡ kind x)
      by_class [] e = let never : false ≡ true = sym (ap (λ l. holds l y) e) ∙ in_class in cc
      by_class (first ∷ others) e =
          let there : holds (class_in kinds xs x) first ≡ true = holds_at (class_in kinds xs x) 0 first (ap (λ l. slice_get l 0) e) in
          let own = filtered (same_kind kinds x) xs first there in
          let same_first : kind first ≡ kind x = sym ((Decides-eqb (kind x) (kind first)).0 own.0) in
          let leads_it : leads_in xs first ≡ true =
          ap (is_first first) (class_same xs first x same_first ∙ e) ∙ (Decides-eqb first first).1 refl in
          (first, in_filter_holds (leads_in xs) xs first own.1 leads_it, same_first)

  -- leads of one kind are the same
  one_lead : (xs : List ℕ) (one other : ℕ) → holds (leads xs) one ≡ true → holds (leads xs) other ≡ true → kind one ≡ kind other →
      one ≡ other
  one_lead xs one other h g same = by_class (class_in kinds xs one) refl
    where
      first_one : is_first one (class_in kinds xs one) ≡ true
      first_one = (filtered (leads_in xs) xs one h).0

      first_other : is_first other (class_in kinds xs one) ≡ true
      first_other = ap (is_first other) (class_same xs one other same) ∙ (filtered (leads_in xs) xs other g).0

      by_class : (c : List ℕ) → class_in kinds xs one ≡ c → one ≡ other
      by_class [] e = let never : false ≡ true = sym (ap (is_first one) e) ∙ first_one in cc
      by_class (first ∷ others) e =
          (Decides-eqb one first).0 (sym (ap (is_first one) e) ∙ first_one)
          ∙ sym ((Decides-eqb other first).0 (sym (ap (is_first other) e) ∙ first_other))

  -- the classes so far, and where that of a kind stands
  pub record IsGrouped (xs : List ℕ) (lists : List (List ℕ)) (slots : List (Option ℕ)) : Type 0 where
    pub lists_are : lists ≡ map (class_in kinds xs) (leads xs)
    pub some : (k place : ℕ) → slice_index_or slots k None ≡ Some place →
        (lead : ℕ) × (slice_get (leads xs) place ≡ Some lead) × (kind lead ≡ k)
    pub none : (k : ℕ) → k < length slots → slice_index_or slots k None ≡ None → (number : ℕ) → holds xs number ≡ true → kind number ≢ k

  map_same : {X Y : Type 0} (f g : X → Y) (xs : List X) → All (λ x. f x ≡ g x) xs → map f xs ≡ map g xs
  map_same f g [] all = refl
  map_same f g (x ∷ xs) all = rw (All-head (λ y. f y ≡ g y) x xs all, map_same f g xs (All-tail (λ y. f y ≡ g y) x xs all)) refl

  map_push : {X Y : Type 0} (f : X → Y) (xs : List X) (x : X) → map f (xs ++ x ∷ []) ≡ map f xs ++ f x ∷ []
  map_push f [] x = refl
  map_push f (y ∷ xs) x = ap (λ l. f y ∷ l) (map_push f xs x)

  other_kind : (one other : ℕ) → kind one ≢ kind other → same_kind kinds one other ≡ false
  other_kind one other differ = by_test (kind one == kind other) refl
    where
      by_test : (b : Bool) → (kind one == kind other) ≡ b → b ≡ false
      by_test false e = refl
      by_test true e = absurd (differ ((Decides-eqb (kind one) (kind other)).0 e))

  class_stays : (xs : List ℕ) (x number : ℕ) → kind number ≢ kind x → class_in kinds (xs ++ x ∷ []) number ≡ class_in kinds xs number
  class_stays xs x number differ = class_push xs x number
      ∙ ap (λ b. class_in kinds xs number ++ cond b (x ∷ []) []) (other_kind number x differ) ∙ append-nil (class_in kinds xs number)

  class_grows : (xs : List ℕ) (x number : ℕ) → kind number ≡ kind x →
      class_in kinds (xs ++ x ∷ []) number ≡ class_in kinds xs number ++ x ∷ []
  class_grows xs x number same = class_push xs x number
      ∙ ap (λ b. class_in kinds xs number ++ cond b (x ∷ []) []) ((Decides-eqb (kind number) (kind x)).1 same)

  lead_held : (xs : List ℕ) (place lead : ℕ) → slice_get (leads xs) place ≡ Some lead → holds xs lead ≡ true
  lead_held xs place lead at = (filtered (leads_in xs) xs lead (holds_at (leads xs) place lead at)).1

  -- a number that is the first of its kind
  pub new_group : (xs : List ℕ) (x : ℕ) (lists : List (List ℕ)) (slots : List (Option ℕ)) → IsGrouped xs lists slots →
      kind x < length slots → slice_index_or slots (kind x) None ≡ None →
      IsGrouped (xs ++ x ∷ []) (lists ++ (x ∷ []) ∷ []) (set slots (kind x) (Some (length lists)))
  new_group xs x lists slots so_far lt is_none = record {
    lists_are =
        ap (λ l. l ++ (x ∷ []) ∷ [])
        (so_far.lists_are
        ∙ sym (map_same (class_in kinds (xs ++ x ∷ [])) (class_in kinds xs) (leads xs)
        (λ k d less. class_stays xs x (get_or (leads xs) k d) (lead_differs k d less)))) ∙
        ap (λ c. map (class_in kinds (xs ++ x ∷ [])) (leads xs) ++ c ∷ []) (sym own_class)
        ∙ sym (map_push (class_in kinds (xs ++ x ∷ [])) (leads xs) x) ∙ ap (map (class_in kinds (xs ++ x ∷ []))) (sym leads_are);
    some = λ k place at. some_at k place at (kind x == k) refl;
    none = λ k less at number h. none_at k less at number h (kind x == k) refl;
  }
    where
      differs : (number : ℕ) → holds xs number ≡ true → kind number ≢ kind x
      differs number h = so_far.none (kind x) lt is_none number h

      lead_differs : (k d : ℕ) → k < length (leads xs) → kind (get_or (leads xs) k d) ≢ kind x
      lead_differs k d less =
          differs (get_or (leads xs) k d) (lead_held xs k (get_or (leads xs) k d) (slice_get-get_or (leads xs) k d less))

      no_class : class_in kinds xs x ≡ []
      no_class = by_class (class_in kinds xs x) refl
        where
          by_class : (c : List ℕ) → class_in kinds xs x ≡ c → c ≡ []
          by_class [] e = refl
          by_class (first ∷ others) e =
              let own = filtered (same_kind kinds x) xs first (holds_at (class_in kinds xs x) 0 first (ap (λ l. slice_get l 0) e)) in
              absurd (differs first own.1 (sym ((Decides-eqb (kind x) (kind first)).0 own.0)))

      own_class : class_in kinds (xs ++ x ∷ []) x ≡ x ∷ []
      own_class = class_grows xs x x refl ∙ ap (λ c. c ++ x ∷ []) no_class

      leads_are : leads (xs ++ x ∷ []) ≡ leads xs ++ x ∷ []
      leads_are = leads_push xs x ∙ ap (λ b. leads xs ++ cond b (x ∷ []) []) (ap (is_first x) own_class ∙ (Decides-eqb x x).1 refl)

      lengths : length lists ≡ length (leads xs)
      lengths = ap length so_far.lists_are ∙ length-map (leads xs) (class_in kinds xs)

      some_at : (k place : ℕ) → slice_index_or (set slots (kind x) (Some (length lists))) k None ≡ Some place → (b : Bool) →
          (kind x == k) ≡ b →
          (lead : ℕ) × (slice_get (leads (xs ++ x ∷ [])) place ≡ Some lead) × (kind lead ≡ k)
      some_at k place at true e =
          let same : kind x ≡ k = (Decides-eqb (kind x) k).0 e in
          let here : length lists
          ≡ place =
          some_same (sym (get_or-set_same slots (kind x) (Some (length lists)) None lt)
          ∙ ap (λ n. slice_index_or (set slots (kind x) (Some (length lists))) n None) same ∙ at) in
          (x, ap (λ l. slice_get l place) leads_are ∙ ap (slice_get (leads xs ++ x ∷ [])) (sym here ∙ lengths) ∙ at_end (leads xs) x, same)
      some_at k place at false e =
          let old =
          so_far.some k place (sym (get_or-set_other slots (kind x) k (Some (length lists)) None (λ same. apart k e same)) ∙ at) in
          (old.0, ap (λ l. slice_get l place) leads_are ∙ at_left (leads xs) (x ∷ []) place old.0 old.1, old.2)
        where
          apart : (n : ℕ) → (kind x == n) ≡ false → n ≢ kind x
          apart n f same = let t : (kind x == n) ≡ true = (Decides-eqb (kind x) n).1 (sym same) in let never : true ≡ false = sym t
              ∙ f in cc

      none_at : (k : ℕ) → k < length (set slots (kind x) (Some (length lists))) →
          slice_index_or (set slots (kind x) (Some (length lists))) k None ≡ None → (number : ℕ) → holds (xs ++ x ∷ []) number ≡ true →
          (b : Bool) →
          (kind x == k) ≡ b → kind number ≢ k
      none_at k less at number h true e =
          let same : kind x ≡ k = (Decides-eqb (kind x) k).0 e in
          not_none (sym at ∙ ap (λ n. slice_index_or (set slots (kind x) (Some (length lists))) n None) (sym same)
          ∙ get_or-set_same slots (kind x) (Some (length lists)) None lt)
      none_at k less at number h false e =
          ⊎_elim
          (λ old. so_far.none k (subst (λ n. k < n) (length-set slots (kind x) (Some (length lists))) less)
          (sym (get_or-set_other slots (kind x) k (Some (length lists)) None (λ same. apart k e same)) ∙ at) number old)
          (λ own same. apart k e (sym same ∙ ap kind own)) (holds_cases xs x number h)
        where
          apart : (n : ℕ) → (kind x == n) ≡ false → n ≢ kind x
          apart n f same = let t : (kind x == n) ≡ true = (Decides-eqb (kind x) n).1 (sym same) in let never : true ≡ false = sym t
              ∙ f in cc

  -- a number of a kind that has a class
  pub more_group : (xs : List ℕ) (x place : ℕ) (lists : List (List ℕ)) (slots : List (Option ℕ)) → IsGrouped xs lists slots →
      holds xs x ≡ false → AllPairs (λ (one other : ℕ). one ≢ other) xs →
      slice_index_or slots (kind x) None ≡ Some place →
      IsGrouped (xs ++ x ∷ []) (set lists place (slice_index_or lists place [] ++ x ∷ [])) slots
  more_group xs x place lists slots so_far new apart is_some = record {
    lists_are =
        same_lists (set lists place (slice_index_or lists place [] ++ x ∷ [])) (map (class_in kinds (xs ++ x ∷ [])) (leads (xs ++ x ∷ [])))
        (length-set lists place (slice_index_or lists place [] ++ x ∷ []) ∙ lengths ∙ sym later_length)
        (λ k d less. at_place k d (subst (λ n. k < n) (length-set lists place (slice_index_or lists place [] ++ x ∷ [])) less)
        (place == k) refl);
    some = λ k p at. let old = so_far.some k p at in (old.0, ap (λ l. slice_get l p) leads_are ∙ old.1, old.2);
    none = λ k less at number h. ⊎_elim (λ old. so_far.none k less at number old)
        (λ own same. not_none (sym at ∙ ap (λ n. slice_index_or slots n None) (sym same ∙ ap kind own) ∙ is_some))
        (holds_cases xs x number h);
  }
    where
      lead : (m : ℕ) × (slice_get (leads xs) place ≡ Some m) × (kind m ≡ kind x)
      lead = so_far.some (kind x) place is_some

      lengths : length lists ≡ length (leads xs)
      lengths = ap length so_far.lists_are ∙ length-map (leads xs) (class_in kinds xs)

      not_first : leads_in (xs ++ x ∷ []) x ≡ false
      not_first = ap (is_first x) (class_grows xs x x refl) ∙ by_class (class_in kinds xs x) refl
        where
          by_class : (c : List ℕ) → class_in kinds xs x ≡ c → is_first x (c ++ x ∷ []) ≡ false
          by_class [] e =
              let member : holds (class_in kinds xs x) lead.0
              ≡ true =
              in_filter_holds (same_kind kinds x) xs lead.0 (lead_held xs place lead.0 lead.1)
              ((Decides-eqb (kind x) (kind lead.0)).1 (sym lead.2)) in
              let never : false ≡ true = sym (ap (λ l. holds l lead.0) e) ∙ member in cc
          by_class (first ∷ others) e = by_test (x == first) refl
            where
              by_test : (b : Bool) → (x == first) ≡ b → b ≡ false
              by_test false f = refl
              by_test true f =
                  let own = filtered (same_kind kinds x) xs first (holds_at (class_in kinds xs x) 0 first (ap (λ l. slice_get l 0) e)) in
                  let never : false ≡ true = sym new ∙ ap (holds xs) ((Decides-eqb x first).0 f) ∙ own.1 in cc

      leads_are : leads (xs ++ x ∷ []) ≡ leads xs
      leads_are = leads_push xs x ∙ ap (λ b. leads xs ++ cond b (x ∷ []) []) not_first ∙ append-nil (leads xs)

      later_length : length (map (class_in kinds (xs ++ x ∷ [])) (leads (xs ++ x ∷ []))) ≡ length (leads xs)
      later_length = length-map (leads (xs ++ x ∷ [])) (class_in kinds (xs ++ x ∷ [])) ∙ ap length leads_are

      leads_apart : AllPairs (λ (one other : ℕ). one ≢ other) (leads xs)
      leads_apart = AllPairs-filter (λ (one other : ℕ). one ≢ other) (leads_in xs) xs apart

      there : place < length (leads xs)
      there = slice_get_within (leads xs) place lead.0 lead.1

      at_lead : (k d : ℕ) → k < length (leads xs) → holds (leads xs) (get_or (leads xs) k d) ≡ true
      at_lead k d less = holds_at (leads xs) k (get_or (leads xs) k d) (slice_get-get_or (leads xs) k d less)

      later_at : (k : ℕ) (d : List ℕ) → k < length (leads xs) →
          get_or (map (class_in kinds (xs ++ x ∷ [])) (leads (xs ++ x ∷ []))) k d ≡ class_in kinds (xs ++ x ∷ []) (get_or (leads xs) k 0)
      later_at k d less = ap (λ l. get_or (map (class_in kinds (xs ++ x ∷ [])) l) k d) leads_are
          ∙ get_or-map (class_in kinds (xs ++ x ∷ [])) (leads xs) k 0 d less

      now_at : (k : ℕ) (d : List ℕ) → k < length (leads xs) → get_or lists k d ≡ class_in kinds xs (get_or (leads xs) k 0)
      now_at k d less = ap (λ l. get_or l k d) so_far.lists_are ∙ get_or-map (class_in kinds xs) (leads xs) k 0 d less

      differs : (k : ℕ) → k < length (leads xs) → place ≢ k → kind (get_or (leads xs) k 0) ≢ kind x
      differs k less other same =
          let lead_is : get_or (leads xs) place 0 ≡ lead.0 = get_or_from_slice_get (leads xs) place lead.0 0 lead.1 in
          let one : get_or (leads xs) k 0 ≡ get_or (leads xs) place 0 =
          one_lead xs (get_or (leads xs) k 0) (get_or (leads xs) place 0) (at_lead k 0 less) (at_lead place 0 there)
          (same ∙ sym lead.2 ∙ ap kind (sym lead_is)) in
          ⊎_elim (λ lt. leads_apart k place 0 lt there one)
          (λ ge. ⊎_elim (λ lt. leads_apart place k 0 lt less (sym one)) (λ le. other (omega (arith, ge, le))) (cases_lt place k))
          (cases_lt k place)

      at_place : (k : ℕ) (d : List ℕ) → k < length lists → (b : Bool) → (place == k) ≡ b →
          get_or (set lists place (slice_index_or lists place [] ++ x ∷ [])) k d
          ≡ get_or (map (class_in kinds (xs ++ x ∷ [])) (leads (xs ++ x ∷ []))) k d
      at_place k d less true e =
          let same : place ≡ k = (Decides-eqb place k).0 e in
          let lead_is : get_or (leads xs) place 0 ≡ lead.0 = get_or_from_slice_get (leads xs) place lead.0 0 lead.1 in
          ap (λ n. get_or (set lists place (slice_index_or lists place [] ++ x ∷ [])) n d) (sym same)
          ∙ get_or-set_same lists place (slice_index_or lists place [] ++ x ∷ []) d (omega (arith, there, lengths)) ∙
          ap (λ l. l ++ x ∷ []) (now_at place [] there) ∙ sym (class_grows xs x (get_or (leads xs) place 0) (ap kind lead_is ∙ lead.2))
          ∙ sym (later_at place d there) ∙
          ap (λ n. get_or (map (class_in kinds (xs ++ x ∷ [])) (leads (xs ++ x ∷ []))) n d) same
      at_place k d less false e =
          let other : place
          ≢ k = λ same. (let t : (place == k) ≡ true = (Decides-eqb place k).1 same in let never : true ≡ false = sym t ∙ e in cc) in
          let short : k < length (leads xs) = omega (arith, less, lengths) in
          get_or-set_other lists place k (slice_index_or lists place [] ++ x ∷ []) d (λ same. other (sym same)) ∙ now_at k d short
          ∙ sym (class_stays xs x (get_or (leads xs) k 0) (differs k short other)) ∙ sym (later_at k d short)

  -- a number, by where its class stands
  pub put_group : (xs : List ℕ) (x : ℕ) (lists later : List (List ℕ)) (slots after : List (Option ℕ)) → IsGrouped xs lists slots →
      holds xs x ≡ false → AllPairs (λ (one other : ℕ). one ≢ other) xs → kind x < length slots →
      later ≡ put_list (slice_index_or slots (kind x) None) x lists →
      after ≡ put_slot (slice_index_or slots (kind x) None) (kind x) (length lists) slots → IsGrouped (xs ++ x ∷ []) later after
  put_group xs x lists later slots after so_far new apart lt is_lists is_slots =
      by_slot (slice_index_or slots (kind x) None) refl is_lists is_slots
    where
      by_slot : (o : Option ℕ) → slice_index_or slots (kind x) None ≡ o → later ≡ put_list o x lists →
          after ≡ put_slot o (kind x) (length lists) slots → IsGrouped (xs ++ x ∷ []) later after
      by_slot None e l s =
          subst (λ ls. IsGrouped (xs ++ x ∷ []) ls after) (sym l)
          (subst (IsGrouped (xs ++ x ∷ []) (lists ++ (x ∷ []) ∷ [])) (sym s) (new_group xs x lists slots so_far lt e))
      by_slot (Some place) e l s =
          subst (λ ls. IsGrouped (xs ++ x ∷ []) ls after) (sym l)
          (subst (IsGrouped (xs ++ x ∷ []) (set lists place (slice_index_or lists place [] ++ x ∷ []))) (sym s)
          (more_group xs x place lists slots so_far new apart e))

  pub first_group : (count : ℕ) (slots : List (Option ℕ)) → slots ≡ replicate count None → IsGrouped [] [] slots
  first_group count slots is = record {
    lists_are = refl;
    some = λ k place at. not_none (sym (ap (λ l. slice_index_or l k None) is ∙ all_same count k None) ∙ at);
    none = λ k less at number h. cc;
  }

  -- one more of an order
  pub more_grouped : (order : List ℕ) (i : ℕ) (lists later : List (List ℕ)) (slots after : List (Option ℕ)) →
      IsGrouped (take i order) lists slots → AllPairs (λ (one other : ℕ). one ≢ other) order → i < length order →
      kind (get_or order i 0) < length slots →
      later ≡ put_list (slice_index_or slots (kind (get_or order i 0)) None) (get_or order i 0) lists →
      after ≡ put_slot (slice_index_or slots (kind (get_or order i 0)) None) (kind (get_or order i 0)) (length lists) slots →
      IsGrouped (take (i + 1) order) later after
  more_grouped order i lists later slots after so_far apart lt within is_lists is_slots =
      subst (λ xs. IsGrouped xs later after) (sym (take_more order i 0 lt))
      (put_group (take i order) x lists later slots after so_far new front_apart within is_lists is_slots)
    where
      x : ℕ
      x = get_or order i 0

      short : (k : ℕ) → k < length (take i order) → k < i
      short k l = let le : length (take i order) ≡ i = length-take-le i order (omega (arith, lt)) in omega (arith, l, le)

      same_at : (k d : ℕ) → k < length (take i order) → get_or (take i order) k d ≡ get_or order k d
      same_at k d l = get_or-take i order k d (short k l)

      front_apart : AllPairs (λ (one other : ℕ). one ≢ other) (take i order)
      front_apart j k d less l same =
          apart j k d less (let s : k < i = short k l in omega (arith, s, lt))
          (sym (same_at j d (omega (arith, less, l))) ∙ same ∙ same_at k d l)

      new : holds (take i order) x ≡ false
      new = by_test (holds (take i order) x) refl
        where
          by_test : (b : Bool) → holds (take i order) x ≡ b → b ≡ false
          by_test false e = refl
          by_test true e =
              let place = held_at (take i order) x e in
              let l : place.0 < length (take i order) = slice_get_within (take i order) place.0 x place.1 in
              absurd (apart place.0 i 0 (short place.0 l) lt
              (sym (same_at place.0 0 l) ∙ get_or_from_slice_get (take i order) place.0 x 0 place.1))

  -- the slots' places are those of lists
  pub slots_within : (xs : List ℕ) (lists : List (List ℕ)) (slots : List (Option ℕ)) → IsGrouped xs lists slots → (k place : ℕ) →
      slice_index_or slots k None ≡ Some place → place < length lists
  slots_within xs lists slots so_far k place at =
      let lead = so_far.some k place at in
      let lt : place < length (leads xs) = slice_get_within (leads xs) place lead.0 lead.1 in
      let lengths : length lists ≡ length (leads xs) = ap length so_far.lists_are ∙ length-map (leads xs) (class_in kinds xs) in
      omega (arith, lt, lengths)
