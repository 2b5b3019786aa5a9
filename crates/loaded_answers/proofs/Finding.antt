-- What the map finds is the answer of the first entry with the key.
use Rattle.std.proofs.Common.{◌≡◌, Bool, true, false, cond, is_some, List, [], ◌∷◌, ◌++◌, Option, Some, None, refl, sym, ap, ◌∙◌}
use Rattle.std.proofs.Common.{option_map, if◌then◌else◌}
use Rattle.std.specs.Prelude.{◌↔◌, IsTrue}
use Rattle.std.specs.Bool.{Decides}
use Rattle.std.specs.Option.{option_or}
use Rattle.std.proofs.lemmas.List.Folds.{find-append}
use Rattle.indexmap.specs.IndexMap.{IndexMap, Updates, get}
use Rattle.shape_data.specs.declared.answer.Answer.{Answer}
use Rattle.shape_data.specs.declared.answer.Key.{Key}
use Rattle.component_keys.specs.Tests.{key_test}
use Rattle.component_keys.proofs.Whole.{same_answers}
use Rattle.claim_core.specs.Views.{Solution}
use Rattle.loaded_answers.specs.Lookup.{AreFound, first_answer, first_entry}

-- two tests of one thing answer alike
pub same_test : (one other : Bool) (P : Type 0) → (IsTrue one ↔ P) → Decides other P → one ≡ other
same_test one other P says decides = same_answers one other (λ e. decides.1 (says.0 e)) (λ e. says.1 (decides.0 e))

pub none_found : {A S : Type 0} (value : A → Answer) (found : IndexMap Key A S) → ((key : Key) → get key_test.0 found key ≡ None) →
    AreFound value [] found
none_found value found none key = ap (option_map value) (none key)

-- the answer of one entry, if it has the key
abbrev answer_for : Solution → Key → Option Answer
answer_for one key = if key_test.0 one.key key then Some one.answer else None

first_more : (loaded : List Solution) (one : Solution) (key : Key) →
    first_answer (loaded ++ one ∷ []) key ≡ option_or (first_answer loaded key) (answer_for one key)
first_more loaded one key =
    ap (option_map (λ (it : Solution). it.answer)) (find-append (λ (it : Solution). key_test.0 it.key key) loaded (one ∷ [])) ∙
    by_first (first_entry loaded key) (key_test.0 one.key key)
  where
    by_first : (o : Option Solution) (b : Bool) →
        option_map (λ (it : Solution). it.answer) (option_or o (cond b (Some one) None))
        ≡ option_or (option_map (λ (it : Solution). it.answer) o) (cond b (Some one.answer) None)
    by_first None true = refl
    by_first None false = refl
    by_first (Some found) b = refl

module _ {A S : Type 0} (value : A → Answer) (loaded : List Solution) (old : IndexMap Key A S) (are : AreFound value loaded old)
    (one : Solution) where
  at_own : (key : Key) → key_test.0 one.key key ≡ true → get key_test.0 old key ≡ get key_test.0 old one.key
  at_own key same = ap (get key_test.0 old) (sym ((key_test.1 one.key key).0 same))

  -- an entry whose key no earlier one has
  pub found_more : (new : IndexMap Key A S) (added : A) → value added ≡ one.answer → is_some (get key_test.0 old one.key) ≡ false →
      Updates key_test.0 old new one.key (Some added) →
      AreFound value (loaded ++ one ∷ []) new
  found_more new added is none updates key =
      ap (option_map value) (updates.0 key) ∙ by_test (key_test.0 one.key key) refl (get key_test.0 old key) refl ∙
      sym (first_more loaded one key ∙ ap (λ o. option_or o (answer_for one key)) (sym (are key)))
    where
      by_test : (b : Bool) → key_test.0 one.key key ≡ b → (o : Option A) → get key_test.0 old key ≡ o →
          option_map value (cond b (Some added) o) ≡ option_or (option_map value o) (cond b (Some one.answer) None)
      by_test true same None e = ap (λ a. Some a) is
      by_test true same (Some there) e = let clash : true ≡ false = ap is_some (sym e ∙ at_own key same) ∙ none in absurd cc
      by_test false other None e = refl
      by_test false other (Some there) e = refl

  -- an entry whose key an earlier one has
  pub found_still : is_some (get key_test.0 old one.key) ≡ true → AreFound value (loaded ++ one ∷ []) old
  found_still some key =
      by_test (key_test.0 one.key key) refl (get key_test.0 old key) refl ∙
      sym (first_more loaded one key ∙ ap (λ o. option_or o (answer_for one key)) (sym (are key)))
    where
      by_test : (b : Bool) → key_test.0 one.key key ≡ b → (o : Option A) → get key_test.0 old key ≡ o →
          option_map value o ≡ option_or (option_map value o) (cond b (Some one.answer) None)
      by_test true same None e = let clash : false ≡ true = ap is_some (sym e ∙ at_own key same) ∙ some in absurd cc
      by_test true same (Some there) e = refl
      by_test false other None e = refl
      by_test false other (Some there) e = refl
