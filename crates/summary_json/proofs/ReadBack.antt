-- One value is that of one well-formed key, and of one well-formed answer: each is read back.
use Rattle.std.specs.Prelude.{◌≡◌, true}
use Rattle.std.specs.declared.option.Option.TheVariants.{None, Some}
use Rattle.std.proofs.Common.{sym, ap, ◌∙◌}
use Rattle.serde_json.specs.Data.{Data}
use Rattle.shape_data.specs.declared.answer.Answer.{Answer}
use Rattle.shape_data.specs.declared.answer.Key.{Key}
use Rattle.shape_data.specs.WellFormed.{IsStorableAnswer, IsStorableKey}
use Rattle.flow_json.specs.declared.unread.Unread.TheVariants.{NotOfForm}
use Rattle.flow_json.proofs.InverseLemmas.{some_is}
use Rattle.summary_json.specs.Answers.{read_answer}
use Rattle.summary_json.specs.Keys.{read_key}
use Rattle.summary_json.specs.Laws.{AnswersAreReadBack, IsReadAnswer, IsReadKey, KeysAreReadBack, OneAnswer, OneKey}
use Rattle.summary_json.specs.Unfit.{IsUnfit}
use Rattle.summary_json.proofs.AnswerLaws.{answer_back, answer_only}
use Rattle.summary_json.proofs.FitLaws.{answer_fits, answer_read, key_fits, key_read}
use Rattle.summary_json.proofs.KeyLaws.{key_back, key_only}

pub keys_back : KeysAreReadBack
keys_back key fits is = key_back key (key_read key fits is) is.structs

pub one_key : OneKey
one_key one other fits_one fits_other is_one is_other same =
    some_is one other (sym (keys_back one fits_one is_one) ∙ ap read_key same ∙ keys_back other fits_other is_other)

pub answers_back : AnswersAreReadBack
answers_back key answer fit key_is fits is = answer_back key key_is.structs key_is.procs.each answer
    (answer_read key answer fit key_is fits is)

pub one_answer : OneAnswer
one_answer key one other fit key_is fits_one fits_other is_one is_other same =
    ap (λ (it : Answer). it.procs) (some_is (record { stored = true; procs = one.procs }) (record { stored = true; procs = other.procs })
    (sym (answers_back key one fit key_is fits_one is_one) ∙ ap (read_answer key) same
    ∙ answers_back key other fit key_is fits_other is_other))

-- ---- what the code knows

no_some : {A : Type 0} (thing : A) → None ≡ Some thing → ⊥
no_some thing is = cc

pub key_found : (d : Data) (key : Key) → read_key d ≡ Some key → IsStorableKey key → IsReadKey d (Some key)
key_found d key is formed = let one = key_only d key is formed.structs in (formed, key_fits key one.1, one.0)

-- the key that is read is the only one that may be written so
pub key_not_formed : (d : Data) (key : Key) → read_key d ≡ Some key → (IsStorableKey key → ⊥) → IsReadKey d None
key_not_formed d key is not_formed other fits formed same =
    not_formed (rw (some_is key other (sym is ∙ ap read_key (sym same) ∙ keys_back other fits formed)) formed)

pub no_key_found : (d : Data) → IsUnfit NotOfForm (read_key d) → IsReadKey d None
no_key_found d none key fits formed same = none key (ap read_key (sym same) ∙ keys_back key fits formed) formed.structs

pub answer_found : (key : Key) (d : Data) (answer : Answer) → IsStorableKey key → read_answer key d ≡ Some answer →
    IsStorableAnswer key answer → IsReadAnswer key d (Some answer)
answer_found key d answer key_is is formed =
    let one = answer_only key key_is.structs key_is.procs.each d answer is in
    (key_is, formed, answer_fits key answer one.2, one.1, one.0)

pub answer_not_formed : (key : Key) (d : Data) (answer : Answer) → read_answer key d ≡ Some answer → (IsStorableAnswer key answer → ⊥) →
    IsReadAnswer key d None
answer_not_formed key d answer is not_formed fit key_is other fits formed same =
    let read : Some answer ≡ Some (record { stored = true; procs = other.procs }) =
    sym is ∙ ap (read_answer key) (sym same) ∙ answers_back key other fit key_is fits formed in
    let found : answer ≡ record { stored = true; procs = other.procs } =
    some_is answer (record { stored = true; procs = other.procs }) read in
    not_formed (rw found (record { answers = formed.answers; reasons = formed.reasons }))

pub no_answer_found : (key : Key) (d : Data) → read_answer key d ≡ None → IsReadAnswer key d None
no_answer_found key d none fit key_is answer fits formed same =
    no_some (record { stored = true; procs = answer.procs }) (sym none ∙ ap (read_answer key) (sym same)
    ∙ answers_back key answer fit key_is fits formed)

pub no_key : (key : Key) (d : Data) → (IsStorableKey key → ⊥) → IsReadAnswer key d None
no_key key d never fit key_is answer fits formed same = absurd (never key_is)
