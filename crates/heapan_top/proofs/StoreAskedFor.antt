-- The store that the words name is the one that is asked for.
use Rattle.std.proofs.Common.{◌≡◌, ℕ, List, Option, Some, Ok, sym, ap, subst, is_some}
use Rattle.std.specs.Prelude.{IfOk}
use Rattle.std.specs.Option.{option_and_then, option_map}
use Rattle.std.specs.declared.result.Result.{Result}
use Rattle.command_words.specs.declared.Asked.{Asked}
use Rattle.command_words.specs.Words.{Options, options_of, words_asked}
use Rattle.heapan_top.specs.Headline.{AreRightWords, store_named}
use Rattle.heapan_top.specs.Parts.{path_bytes}

module _ {E : Type 0} (words : List (List ℕ)) (result : Result (Option Asked) E) (asked : Asked) (is : result ≡ Ok (Some asked))
    (known : IfOk result (λ those. option_map options_of those ≡ words_asked words)) where
  asked_as : Some (options_of asked) ≡ words_asked words
  asked_as = subst (λ r. IfOk r (λ those. option_map options_of those ≡ words_asked words)) is known

  pub are_right : AreRightWords words
  are_right = ap is_some (sym asked_as)

  pub named_is : path_bytes asked.store ≡ store_named words
  named_is = ap (option_and_then (λ (those : Options). those.store)) asked_as
