-- What a leader did, told of the values that the call was given and gives back.
use Rattle.std.proofs.Common.{◌≡◌, ℕ, ◌≤◌, List, Option, Some, None, inr, map, refl, sym, ap, ◌∙◌, subst}
use Rattle.std.specs.Prelude.{IfSome}
use Rattle.reporters.specs.Feeding.{steady_count}
use Rattle.reporters.specs.Known.{Known}
use Rattle.session_replies.specs.Answers.{Setting}
use Rattle.heapan_top.specs.declared.status.Status.{Status}
use Rattle.heapan_top.specs.declared.status.Status.TheVariants as status
use Rattle.heapan_top.specs.Headline.{Answers}
use Rattle.heapan_top.specs.Parts.{IsLed}
use Rattle.heapan_top.specs.Replies.{beginning}
use Rattle.heapan_top.specs.Stores.{path_told}
use Rattle.heapan_top.proofs.CourseLaws.{cut_answers, nothing_written, reads_none}
use Rattle.heapan_top.proofs.FedLaws.{cut_is_not_whole, still_fed}
use Rattle.heapan_top.proofs.WorkLaws.{counted_more, none_appended}

still_answered : (setting : Setting) (told held : Option (List ℕ)) (ended : Status) → ended ≡ status.NoMemory →
    IfSome told (λ stream. Answers (beginning setting) stream held held ended)
still_answered setting None held ended is = tt
still_answered setting (Some stream) held ended is =
    cut_answers (beginning setting) stream held held ended (inr (inr is)) (λ text planned replies. nothing_written held held refl text)

module _ {S K P A : Type 0} (left : S → Option (List ℕ)) (held : K → Option (List ℕ)) (kept : P → List ℕ → Option (Option (List ℕ)))
    (reads : S → ℕ) (writes : K → ℕ) (stores : P → ℕ) (known : A → Known) where
  abbrev LedAt : Setting → Option (List ℕ) → S → S → K → K → P → P → List A → List A → Status → ℕ → Type 0
  LedAt setting path s t k l p q xs ys ended seen =
      IsLed setting path (left s) (left t) (held k) (held l) (kept p) (kept q) (reads s) (reads t) (writes k) (writes l) (stores p)
      (stores q) (ys ≡ xs) (map known xs) (map known ys) ended seen

  -- nothing was done, for want of memory
  pub still_led : (setting : Setting) (path : Option (List ℕ)) (s : S) (k : K) (p : P) (xs ys : List A) (ended : Status) (seen : ℕ) →
      ys ≡ xs → ended ≡ status.NoMemory → LedAt setting path s s k k p p xs ys ended seen
  still_led setting path s k p xs ys ended seen same is = record {
    answers = still_answered setting (left s) (held k) ended is;
    work = none_appended setting (left s) (held k) seen;
    fed = still_fed known xs ys setting (left s) (held k) (path_told (kept p) path) ended same (cut_is_not_whole ended (inr (inr is)));
    steady = ap (λ all. steady_count (map known all)) same;
    reads = reads_none (left s);
    others = λ other no. refl;
    usage = λ also. let clash : status.NoMemory ≡ status.Usage = sym is ∙ also in cc;
    read_fault = λ also. let clash : status.NoMemory ≡ status.ReadFault = sym is ∙ also in absurd cc;
    write_fault = λ also. let clash : status.NoMemory ≡ status.WriteFault = sym is ∙ also in absurd cc;
    store_fault = λ also. let clash : status.NoMemory ≡ status.StoreFault = sym is ∙ also in absurd cc;
  }

  led_more : (setting : Setting) (path : Option (List ℕ)) (s t : S) (k l : K) (p q : P) (xs ys : List A) (ended : Status)
      (seen solves : ℕ) → seen ≤ solves → LedAt setting path s t k l p q xs ys ended seen →
      LedAt setting path s t k l p q xs ys ended solves
  led_more setting path s t k l p q xs ys ended seen solves enough led = record {
    answers = led.answers;
    work = counted_more setting (left s) (held k) (held l) seen solves enough led.work;
    fed = led.fed;
    steady = led.steady;
    reads = led.reads;
    others = led.others;
    usage = led.usage;
    read_fault = led.read_fault;
    write_fault = led.write_fault;
    store_fault = led.store_fault;
  }

  -- the same of equal things
  pub led_there : (setting setting' : Setting) (path path' : Option (List ℕ)) (s s' t t' : S) (k k' l l' : K) (p p' q q' : P)
      (xs xs' ys ys' : List A) (ended ended' : Status) (seen solves : ℕ) →
      setting ≡ setting' → path ≡ path' → s ≡ s' → t ≡ t' → k ≡ k' → l ≡ l' → p ≡ p' → q ≡ q' → xs ≡ xs' → ys ≡ ys' → ended ≡ ended' →
      seen ≤ solves →
      LedAt setting path s t k l p q xs ys ended seen → LedAt setting' path' s' t' k' l' p' q' xs' ys' ended' solves
  led_there setting setting' path path' s s' t t' k k' l l' p p' q q' xs xs' ys ys' ended ended' seen solves is_setting is_path is_s is_t
      is_k is_l is_p is_q is_xs is_ys is_ended enough led =
      subst (λ a. LedAt a path' s' t' k' l' p' q' xs' ys' ended' solves) is_setting
      (subst (λ a. LedAt setting a s' t' k' l' p' q' xs' ys' ended' solves) is_path
      (subst (λ a. LedAt setting path a t' k' l' p' q' xs' ys' ended' solves) is_s
      (subst (λ a. LedAt setting path s a k' l' p' q' xs' ys' ended' solves) is_t
      (subst (λ a. LedAt setting path s t a l' p' q' xs' ys' ended' solves) is_k
      (subst (λ a. LedAt setting path s t k a p' q' xs' ys' ended' solves) is_l
      (subst (λ a. LedAt setting path s t k l a q' xs' ys' ended' solves) is_p
      (subst (λ a. LedAt setting path s t k l p a xs' ys' ended' solves) is_q
      (subst (λ a. LedAt setting path s t k l p q a ys' ended' solves) is_xs
      (subst (λ a. LedAt setting path s t k l p q xs a ended' solves) is_ys
      (subst (λ a. LedAt setting path s t k l p q xs ys a solves) is_ended
      (led_more setting path s t k l p q xs ys ended seen solves enough led)))))))))))
