-- Where a `/*` comment ends: the scan finds the first end of a comment.
use Rattle.std.proofs.Common.{◌≡◌, ◌≢◌, ℕ, zero, suc, ◌+◌, ◌-◌, ◌<◌, ◌≤◌, Bool, true, false, cond, drop, List, [], ◌∷◌, ◌++◌, length}
use Rattle.std.proofs.Common.{replicate, inl, inr, ◌⊎◌, refl, sym, ap, ◌∙◌, subst, append_assoc, arith}
use Rattle.std.specs.Prelude.{◌==◌, ◌&&◌, ◌||◌, Option, Some, None}
use Rattle.std.specs.List.{list_all}
use Rattle.std.proofs.lemmas.Bool.{eqb-true, cases_lt}
use Rattle.std.proofs.lemmas.List.{append-nil, length-append, length-drop}
use Rattle.c_grammar.specs.declared.tokens.comments.Behind.{Behind}
use Rattle.c_grammar.specs.declared.tokens.comments.Behind.TheVariants.{Other, Star, Join}
use Rattle.c_grammar.specs.Tokens.Gaps.{splices, HasCommentEnd}
use Rattle.c_grammar.specs.Tokens.Scan.{block_end, is_star, behind, behind_other}
use Rattle.c_grammar.proofs.TokensLemmas.Booleans.{both_true, cond_true, cond_false}
use Rattle.c_grammar.proofs.TokensLemmas.Fronts.{heads, tails, differ, in_all, all_append, shorter_first}

-- an end of a comment begins the bytes
abbrev BeginsEnd : List ℕ → Type 0
BeginsEnd bytes = (returns rest : List ℕ) × (bytes ≡ 42 ∷ splices returns ++ 47 ∷ rest)

-- an end of a comment begins the bytes, and this rest stands behind it
abbrev EndsAt : List ℕ → Option (List ℕ) → Type 0
EndsAt bytes (Some rest) = (returns : List ℕ) × (bytes ≡ 42 ∷ splices returns ++ 47 ∷ rest)
EndsAt bytes None = ⊥

-- this rest stands behind the first end of a comment, or there is none
abbrev Finds : List ℕ → Option (List ℕ) → Type 0
Finds [] (Some rest) = ⊥
Finds [] None = Unit {0}
Finds (b ∷ bytes) found = EndsAt (b ∷ bytes) found ⊎ ((¬ BeginsEnd (b ∷ bytes)) × Finds bytes found)

no_star : (b : ℕ) (bytes : List ℕ) → b ≢ 42 → ¬ BeginsEnd (b ∷ bytes)
no_star b bytes other = λ (returns, rest, e). other cc

no_close : (c : ℕ) (bytes : List ℕ) → c ≢ 47 → c ≢ 92 → ¬ BeginsEnd (42 ∷ c ∷ bytes)
no_close c bytes slash back = λ (returns, rest, e). by returns rest e
  where
    by : (returns rest : List ℕ) → 42 ∷ c ∷ bytes ≡ 42 ∷ splices returns ++ 47 ∷ rest → ⊥
    by [] rest e = slash cc
    by (n ∷ others) rest e = back cc

-- how carriage returns before a line feed begin
abbrev Returns : ℕ → List ℕ → ℕ → List ℕ → Type 0
Returns c bytes n rest =
    ((n ≡ zero) × (c ≡ 10) × (bytes ≡ rest)) ⊎ ((m : ℕ) × (n ≡ suc m) × (c ≡ 13) × (bytes ≡ replicate m 13 ++ 10 ∷ rest))

returns_begin : (n c : ℕ) (bytes rest : List ℕ) → c ∷ bytes ≡ replicate n 13 ++ 10 ∷ rest → Returns c bytes n rest
returns_begin zero c bytes rest e = inl (refl, cc, cc)
returns_begin (suc n) c bytes rest e = inr (n, refl, cc, cc)

abbrev Splice : ℕ → List ℕ → Type 0
Splice c bytes = (n : ℕ) × (others rest : List ℕ) × Returns c bytes n (splices others ++ 47 ∷ rest)

-- an end with a splice in it
begins_splice : (c : ℕ) (bytes : List ℕ) → BeginsEnd (42 ∷ 92 ∷ c ∷ bytes) → Splice c bytes
begins_splice c bytes (returns, rest, e) = by returns e
  where
    by : (returns : List ℕ) → 42 ∷ 92 ∷ c ∷ bytes ≡ 42 ∷ splices returns ++ 47 ∷ rest → Splice c bytes
    by [] e = absurd (differ 92 47 refl (heads (tails e)))
    by (n ∷ others) e =
        let f : c ∷ bytes ≡ (replicate n 13 ++ 10 ∷ splices others) ++ 47 ∷ rest = cc in (
          n,
          others,
          rest,
          returns_begin n c bytes (splices others ++ 47 ∷ rest)
              (f ∙ append_assoc (replicate n 13) (10 ∷ splices others) (47 ∷ rest)),
        )

no_join : (c : ℕ) (bytes : List ℕ) → c ≢ 10 → c ≢ 13 → ¬ BeginsEnd (42 ∷ 92 ∷ c ∷ bytes)
no_join c bytes feed return = λ is. by (begins_splice c bytes is)
  where
    by : Splice c bytes → ⊥
    by (n, others, rest, inl (zero_is, is, same)) = feed is
    by (n, others, rest, inr (m, n_is, is, same)) = return is

skip : (b : ℕ) (bytes : List ℕ) (found : Option (List ℕ)) → b ≢ 42 → Finds bytes found → Finds (b ∷ bytes) found
skip b bytes found other h = inr (no_star b bytes other, h)

-- a splice behind a star
join_feed : (bytes : List ℕ) (found : Option (List ℕ)) → Finds (42 ∷ bytes) found → Finds (42 ∷ 92 ∷ 10 ∷ bytes) found
join_feed bytes (Some rest) (inl (returns, e)) =
    let f : bytes ≡ splices returns ++ 47 ∷ rest = cc in inl (zero ∷ returns, ap (λ l. 42 ∷ 92 ∷ 10 ∷ l) f)
join_feed bytes None (inl never) = absurd never
join_feed bytes found (inr (none, h)) =
    inr ((λ is. by (begins_splice 10 bytes is)), skip 92 (10 ∷ bytes) found (λ e. omega arith) (skip 10 bytes found (λ e. omega arith) h))
  where
    by : Splice 10 bytes → ⊥
    by (n, others, rest, inl (zero_is, is, same)) = none (others, rest, ap (λ l. 42 ∷ l) same)
    by (n, others, rest, inr (m, n_is, is, same)) = absurd (omega arith)

-- a carriage return in a splice behind a star
join_return : (bytes : List ℕ) (found : Option (List ℕ)) → Finds (42 ∷ 92 ∷ bytes) found → Finds (42 ∷ 92 ∷ 13 ∷ bytes) found
join_return bytes (Some rest) (inl ([], e)) = absurd (differ 92 47 refl (heads (tails e)))
join_return bytes (Some rest) (inl (n ∷ others, e)) =
    let f : bytes ≡ (replicate n 13 ++ 10 ∷ splices others) ++ 47 ∷ rest = cc in inl (suc n ∷ others, ap (λ l. 42 ∷ 92 ∷ 13 ∷ l) f)
join_return bytes None (inl never) = absurd never
join_return bytes (Some rest) (inr (none, inl (returns, e))) = absurd (differ 92 42 refl (heads e))
join_return bytes None (inr (none, inl never)) = absurd never
join_return bytes found (inr (none, inr (other, h))) =
    inr ((λ is. by (begins_splice 13 bytes is)), skip 92 (13 ∷ bytes) found (λ e. omega arith) (skip 13 bytes found (λ e. omega arith) h))
  where
    by : Splice 13 bytes → ⊥
    by (n, others, rest, inl (zero_is, is, same)) = absurd (omega arith)
    by (n, others, rest, inr (m, n_is, is, same)) =
        none (m ∷ others, rest, ap (λ l. 42 ∷ 92 ∷ l) (same ∙ sym (append_assoc (replicate m 13) (10 ∷ splices others) (47 ∷ rest))))

join_other : (c : ℕ) (bytes : List ℕ) (found : Option (List ℕ)) → c ≢ 10 → c ≢ 13 → Finds (c ∷ bytes) found
    → Finds (42 ∷ 92 ∷ c ∷ bytes) found
join_other c bytes found feed return h = inr (no_join c bytes feed return, skip 92 (c ∷ bytes) found (λ e. omega arith) h)

star_other : (c : ℕ) (bytes : List ℕ) (found : Option (List ℕ)) → c ≢ 47 → c ≢ 92 → Finds (c ∷ bytes) found → Finds (42 ∷ c ∷ bytes) found
star_other c bytes found slash back h = inr (no_close c bytes slash back, h)

-- what the state of the scan stands for
abbrev recalled : Behind → List ℕ → List ℕ
recalled Other bytes = bytes
recalled Star bytes = 42 ∷ bytes
recalled Join bytes = 42 ∷ 92 ∷ bytes

step_other : (b : ℕ) (bytes : List ℕ) (found : Option (List ℕ)) → Finds (recalled (behind Other b) bytes) found → Finds (b ∷ bytes) found
step_other b bytes found h = by (b == 42) refl
  where
    by : (c : Bool) → (b == 42) ≡ c → Finds (b ∷ bytes) found
    by true e =
        subst (λ x. Finds (x ∷ bytes) found) (sym (eqb-true b 42 e))
        (subst (λ s. Finds (recalled s bytes) found) (cond_true (b == 42) Star Other e) h)
    by false e = skip b bytes found (differ b 42 e) (subst (λ s. Finds (recalled s bytes) found) (cond_false (b == 42) Star Other e) h)

step_star : (b : ℕ) (bytes : List ℕ) (found : Option (List ℕ)) → b ≢ 47 → Finds (recalled (behind Star b) bytes) found
    → Finds (42 ∷ b ∷ bytes) found
step_star b bytes found slash h = by (b == 42) refl
  where
    next : (c : Bool) → (b == 42) ≡ false → (b == 92) ≡ c → Finds (42 ∷ b ∷ bytes) found
    next true f e =
        subst (λ x. Finds (42 ∷ x ∷ bytes) found) (sym (eqb-true b 92 e))
        (subst (λ s. Finds (recalled s bytes) found)
        (cond_false (b == 42) Star (behind_other Star b) f ∙ cond_true (b == 92) Join Other e) h)
    next false f e =
        star_other b bytes found slash (differ b 92 e)
        (skip b bytes found (differ b 42 f)
        (subst (λ s. Finds (recalled s bytes) found)
        (cond_false (b == 42) Star (behind_other Star b) f ∙ cond_false (b == 92) Join Other e) h))

    by : (c : Bool) → (b == 42) ≡ c → Finds (42 ∷ b ∷ bytes) found
    by true e =
        let same =
        eqb-true b 42 e in star_other b bytes found slash (λ k. omega arith)
        (subst (λ x. Finds (x ∷ bytes) found) (sym same)
        (subst (λ s. Finds (recalled s bytes) found) (cond_true (b == 42) Star (behind_other Star b) e) h))
    by false e = next (b == 92) e refl

step_join : (b : ℕ) (bytes : List ℕ) (found : Option (List ℕ)) → Finds (recalled (behind Join b) bytes) found
    → Finds (42 ∷ 92 ∷ b ∷ bytes) found
step_join b bytes found h = by (b == 42) refl
  where
    last : (c : Bool) → (b == 42) ≡ false → (b == 10) ≡ false → (b == 13) ≡ c → Finds (42 ∷ 92 ∷ b ∷ bytes) found
    last true f g e =
        subst (λ x. Finds (42 ∷ 92 ∷ x ∷ bytes) found) (sym (eqb-true b 13 e))
        (join_return bytes found
        (subst (λ s. Finds (recalled s bytes) found)
        (cond_false (b == 42) Star (behind_other Join b) f ∙ cond_false (b == 10) Star _ g ∙ cond_true (b == 13) Join Other e) h))
    last false f g e =
        join_other b bytes found (differ b 10 g) (differ b 13 e)
        (skip b bytes found (differ b 42 f)
        (subst (λ s. Finds (recalled s bytes) found)
        (cond_false (b == 42) Star (behind_other Join b) f ∙ cond_false (b == 10) Star _ g ∙ cond_false (b == 13) Join Other e) h))

    next : (c : Bool) → (b == 42) ≡ false → (b == 10) ≡ c → Finds (42 ∷ 92 ∷ b ∷ bytes) found
    next true f e =
        subst (λ x. Finds (42 ∷ 92 ∷ x ∷ bytes) found) (sym (eqb-true b 10 e))
        (join_feed bytes found
        (subst (λ s. Finds (recalled s bytes) found) (cond_false (b == 42) Star (behind_other Join b) f ∙ cond_true (b == 10) Star _ e) h))
    next false f e = last (b == 13) f e refl

    by : (c : Bool) → (b == 42) ≡ c → Finds (42 ∷ 92 ∷ b ∷ bytes) found
    by true e =
        let same =
        eqb-true b 42 e in join_other b bytes found (λ k. omega arith) (λ k. omega arith)
        (subst (λ x. Finds (x ∷ bytes) found) (sym same)
        (subst (λ s. Finds (recalled s bytes) found) (cond_true (b == 42) Star (behind_other Join b) e) h))
    by false e = next (b == 10) e refl

-- what stands behind the end that the scan finds
abbrev left : ℕ → List ℕ → Option ℕ → Option (List ℕ)
left place bytes None = None
left place bytes (Some n) = Some (drop (n - place) bytes)

from_step : (c : Bool) (place n : ℕ) (end : Option ℕ) → (end ≡ Some n → place + 1 < n) → cond c (Some (place + 1)) end ≡ Some n → place < n
from_step true place n end f e = let same : place + 1 ≡ n = cc in omega arith
from_step false place n end f e = let later = f e in omega arith

pub block_from : (bytes : List ℕ) (place : ℕ) (before : Behind) (n : ℕ) → block_end place before bytes ≡ Some n → place < n
block_from [] place before n e = absurd cc
block_from (b ∷ bytes) place before n e = from_step _ place n _ (block_from bytes (place + 1) _ n) e

to_step : (c : Bool) (place n count : ℕ) (end : Option ℕ) → (end ≡ Some n → n ≤ place + 1 + count) → cond c (Some (place + 1)) end ≡ Some n
    → n ≤ place + suc count
to_step true place n count end f e = let same : place + 1 ≡ n = cc in omega arith
to_step false place n count end f e = let later = f e in omega arith

block_to : (bytes : List ℕ) (place : ℕ) (before : Behind) (n : ℕ) → block_end place before bytes ≡ Some n → n ≤ place + length bytes
block_to [] place before n e = absurd cc
block_to (b ∷ bytes) place before n e = to_step _ place n (length bytes) _ (block_to bytes (place + 1) _ n) e

left_more : (place b : ℕ) (bytes : List ℕ) (end : Option ℕ) → ((n : ℕ) → end ≡ Some n → place + 1 < n)
    → left place (b ∷ bytes) end ≡ left (place + 1) bytes end
left_more place b bytes None later = refl
left_more place b bytes (Some n) later =
    let more = later n refl in
    let one : n - place ≡ suc (n - (place + 1)) = omega arith in
    ap (λ k. Some (drop k (b ∷ bytes))) one

-- the step of the scan, where it does not stop
goes_on : (before : Behind) (b : ℕ) (bytes : List ℕ) (found : Option (List ℕ)) → (b == 47 && is_star before) ≡ false
    → Finds (recalled (behind before b) bytes) found → Finds (recalled before (b ∷ bytes)) found
goes_on Other b bytes found stops h = step_other b bytes found h
goes_on Star b bytes found stops h = step_star b bytes found (slash (b == 47) stops refl) h
  where
    slash : (c : Bool) → (c && true) ≡ false → (b == 47) ≡ c → b ≢ 47
    slash true never e = absurd cc
    slash false is e = differ b 47 e
goes_on Join b bytes found stops h = step_join b bytes found h

stops : (before : Behind) (place b : ℕ) (bytes : List ℕ) → (b == 47 && is_star before) ≡ true
    → Finds (recalled before (b ∷ bytes)) (Some (drop (place + 1 - place) (b ∷ bytes)))
stops Other place b bytes e = let never = (both_true (b == 47) false e).1 in absurd cc
stops Join place b bytes e = let never = (both_true (b == 47) false e).1 in absurd cc
stops Star place b bytes e =
    let slash : b ≡ 47 = eqb-true b 47 (both_true (b == 47) true e).0 in
    let one : place + 1 - place ≡ 1 = omega arith in
    inl ([], ap (λ x. 42 ∷ x ∷ bytes) slash ∙ ap (λ k. 42 ∷ 47 ∷ drop k (b ∷ bytes)) (sym one))

-- the scan finds the first end
pub scan_finds : (bytes : List ℕ) (place : ℕ) (before : Behind)
    → Finds (recalled before bytes) (left place bytes (block_end place before bytes))
scan_finds [] place Other = tt
scan_finds [] place Star = inr (no, tt)
  where
    by : (returns rest : List ℕ) → 42 ∷ [] ≡ 42 ∷ splices returns ++ 47 ∷ rest → ⊥
    by [] rest e = absurd cc
    by (n ∷ others) rest e = absurd cc

    no : ¬ BeginsEnd (42 ∷ [])
    no = λ (returns, rest, e). by returns rest e
scan_finds [] place Join = inr (no, skip 92 [] None (λ e. omega arith) tt)
  where
    by : (returns rest : List ℕ) → 42 ∷ 92 ∷ [] ≡ 42 ∷ splices returns ++ 47 ∷ rest → ⊥
    by [] rest e = absurd (differ 92 47 refl (heads (tails e)))
    by (n ∷ others) rest e = let f : [] ≡ (replicate n 13 ++ 10 ∷ splices others) ++ 47 ∷ rest = cc in
        let long = ap length (f ∙ append_assoc (replicate n 13) (10 ∷ splices others) (47 ∷ rest))
        ∙ length-append (replicate n 13) (10 ∷ splices others ++ 47 ∷ rest) in absurd (omega arith)

    no : ¬ BeginsEnd (42 ∷ 92 ∷ [])
    no = λ (returns, rest, e). by returns rest e
scan_finds (b ∷ bytes) place before = by (scan_finds bytes (place + 1) (behind before b)) (b == 47 && is_star before) refl
  where
    by : Finds (recalled (behind before b) bytes) (left (place + 1) bytes (block_end (place + 1) (behind before b) bytes)) → (c : Bool)
        → (b == 47 && is_star before) ≡ c
        → Finds (recalled before (b ∷ bytes))
        (left place (b ∷ bytes) (cond (b == 47 && is_star before) (Some (place + 1)) (block_end (place + 1) (behind before b) bytes)))
    by h true e =
        subst (λ t. Finds (recalled before (b ∷ bytes)) (left place (b ∷ bytes) t)) (sym (cond_true (b == 47 && is_star before) _ _ e))
        (stops before place b bytes e)
    by h false e =
        subst (λ t. Finds (recalled before (b ∷ bytes)) (left place (b ∷ bytes) t)) (sym (cond_false (b == 47 && is_star before) _ _ e))
        (subst (λ f. Finds (recalled before (b ∷ bytes)) f)
        (sym (left_more place b bytes _ (block_from bytes (place + 1) (behind before b)))) (goes_on before b bytes _ e h))

-- ---- from the first end to comments

abbrev in_splice : ℕ → Bool
in_splice b = b == 92 || (b == 13 || b == 10)

all_returns : (n : ℕ) → list_all in_splice (replicate n 13) ≡ true
all_returns zero = refl
all_returns (suc n) = all_returns n

all_splices : (returns : List ℕ) → list_all in_splice (splices returns) ≡ true
all_splices [] = refl
all_splices (n ∷ others) = all_append in_splice (replicate n 13) (10 ∷ splices others) (all_returns n) (all_splices others)

-- an end that begins the bytes, or stands further on
abbrev Begins : List ℕ → Type 0
Begins [] = ⊥
Begins (b ∷ bytes) = BeginsEnd (b ∷ bytes) ⊎ HasCommentEnd bytes

begins : (bytes : List ℕ) → HasCommentEnd bytes → Begins bytes
begins bytes (front, end, back, (returns, is), e) = by bytes front (e ∙ ap (λ l. front ++ (l ++ back)) is)
  where
    by : (bytes front : List ℕ) → bytes ≡ front ++ ((42 ∷ splices returns ++ 47 ∷ []) ++ back) → Begins bytes
    by [] [] e = absurd cc
    by [] (x ∷ front) e = absurd cc
    by (b ∷ bytes) [] e = inl (returns, back, e ∙ ap (λ l. 42 ∷ l) (append_assoc (splices returns) (47 ∷ []) back))
    by (b ∷ bytes) (x ∷ front) e =
        inr (
          front,
          42 ∷ splices returns ++ 47
              ∷ [],
          back,
          (returns, refl),
          (let f : bytes ≡ front ++ ((42 ∷ splices returns ++ 47 ∷ []) ++ back) = cc in f),
        )

-- an end stays where more stands behind
pub has_more : (bytes more : List ℕ) → HasCommentEnd bytes → HasCommentEnd (bytes ++ more)
has_more bytes more (front, end, back, is, e) = (
  front,
  end,
  back ++ more,
  is,
  ap (λ l. l ++ more) e ∙ append_assoc front (end ++ back) more
      ∙ ap (λ l. front ++ l) (append_assoc end back more),
)

-- the bytes before the slash of the first end
abbrev pub IsBody : List ℕ → Type 0
IsBody body = HasCommentEnd (body ++ 47 ∷ []) × ¬ HasCommentEnd body

abbrev Ended : List ℕ → List ℕ → Type 0
Ended bytes rest = (body : List ℕ) × (bytes ≡ body ++ 47 ∷ rest) × IsBody body

first_body : (bytes rest : List ℕ) → Finds bytes (Some rest) → Ended bytes rest
first_body [] rest never = absurd never
first_body (b ∷ bytes) rest (inl (returns, e)) = (
  42 ∷ splices returns,
  e,
  (
    (
      [],
      42 ∷ splices returns ++ 47
          ∷ [],
      [],
      (returns, refl),
      sym (append-nil (42 ∷ splices returns ++ 47 ∷ [])),
    ),
    λ (
      front,
      end,
      back,
      (others, is),
      f,
    ). no_slash front end back others is f,
  ),
)
  where
    no_slash : (front end back others : List ℕ) → end ≡ 42 ∷ splices others ++ 47 ∷ [] → 42 ∷ splices returns ≡ front ++ (end ++ back) → ⊥
    no_slash [] end back others is f =
        let same : splices returns ≡ splices others ++ 47 ∷ back =
        tail (f ∙ ap (λ l. l ++ back) is ∙ ap (λ l. 42 ∷ l) (append_assoc (splices others) (47 ∷ []) back)) in
        let never = in_all in_splice (splices others) 47 back (ap (list_all in_splice) (sym same) ∙ all_splices returns) in absurd cc
      where
        tail : {a b : ℕ} {xs ys : List ℕ} → a ∷ xs ≡ b ∷ ys → xs ≡ ys
        tail e = cc
    no_slash (x ∷ front) end back others is f =
        let same : splices returns ≡ front ++ (end ++ back) = cc in
        let there = same ∙ ap (λ l. front ++ (l ++ back)) is in
        let never =
        in_all in_splice front 42 ((splices others ++ 47 ∷ []) ++ back)
        (ap (list_all in_splice) (sym there) ∙ all_splices returns) in absurd cc
first_body (b ∷ bytes) rest (inr (none, h)) = more (first_body bytes rest h)
  where
    more : Ended bytes rest → Ended (b ∷ bytes) rest
    more (body, is, ((front, end, back, ends, e), first)) =
        (b ∷ body, ap (λ l. b ∷ l) is, ((b ∷ front, end, back, ends, ap (λ l. b ∷ l) e), λ has. no (begins (b ∷ body) has)))
      where
        no : Begins (b ∷ body) → ⊥
        no (inl (returns, others, e)) =
            none (
              returns,
              others ++ 47 ∷ rest,
              ap (λ l. b ∷ l) is ∙ ap (λ l. l ++ 47 ∷ rest) e
                  ∙ ap (λ l. 42 ∷ l) (append_assoc (splices returns) (47 ∷ others) (47 ∷ rest)),
            )
        no (inr has) = first has

no_body : (bytes : List ℕ) → Finds bytes None → ¬ HasCommentEnd bytes
no_body [] h = λ has. begins [] has
no_body (b ∷ bytes) (inl never) = absurd never
no_body (b ∷ bytes) (inr (none, h)) = λ has. no (no_body bytes h) (begins (b ∷ bytes) has)
  where
    no : (¬ HasCommentEnd bytes) → Begins (b ∷ bytes) → ⊥
    no first (inl is) = none is
    no first (inr has) = first has

-- no body begins a longer one
one_body : (body other rest behind : List ℕ) → IsBody body → IsBody other → body ++ 47 ∷ rest ≡ other ++ 47 ∷ behind
    → length other ≤ length body
one_body body other rest behind is ends e = by (cases_lt (length body) (length other))
  where
    longer : (mid : List ℕ) → length body < length other → other ≡ body ++ mid → 47 ∷ rest ≡ mid ++ 47 ∷ behind → ⊥
    longer [] lt same f = let none = ap length (same ∙ append-nil body) in absurd (omega arith)
    longer (m ∷ mid) lt same f =
        let slash : 47 ≡ m = cc in
        let there : other ≡ (body ++ 47 ∷ []) ++ mid =
        same ∙ ap (λ x. body ++ x ∷ mid) (sym slash) ∙ sym (append_assoc body (47 ∷ []) mid) in
        ends.1 (subst HasCommentEnd (sym there) (has_more (body ++ 47 ∷ []) mid is.0))

    by : (length body < length other) ⊎ (length other ≤ length body) → length other ≤ length body
    by (inl lt) = let (mid, same, f) = shorter_first body (47 ∷ rest) other (47 ∷ behind) (omega arith) e in absurd (longer mid lt same f)
    by (inr le) = le

pub same_body : (body other rest behind : List ℕ) → IsBody body → IsBody other → body ++ 47 ∷ rest ≡ other ++ 47 ∷ behind
    → (body ≡ other) × (rest ≡ behind)
same_body body other rest behind is ends e =
    let there = one_body body other rest behind is ends e in
    let here = one_body other body behind rest ends is (sym e) in
    let (mid, same, f) = shorter_first body (47 ∷ rest) other (47 ∷ behind) here e in
    by mid same f there here
  where
    by : (mid : List ℕ) → other ≡ body ++ mid → 47 ∷ rest ≡ mid ++ 47 ∷ behind → length other ≤ length body → length body ≤ length other
        → (body ≡ other) × (rest ≡ behind)
    by [] same f low high = (sym (append-nil body) ∙ sym same, cc)
    by (m ∷ mid) same f low high = let long = ap length same ∙ length-append body (m ∷ mid) in absurd (omega arith)

abbrev pub Scanned : List ℕ → Option ℕ → Type 0
Scanned bytes (Some n) = (body rest : List ℕ) × IsBody body × (bytes ≡ body ++ 47 ∷ rest) × (n ≡ length body + 1)
Scanned bytes None = ¬ HasCommentEnd bytes

-- what the scan of a comment tells
pub scanned : (bytes : List ℕ) → Scanned bytes (block_end 0 Other bytes)
scanned bytes = by (block_end 0 Other bytes) refl (scan_finds bytes 0 Other)
  where
    some : (n : ℕ) → block_end 0 Other bytes ≡ Some n → Finds bytes (Some (drop (n - 0) bytes)) → Scanned bytes (Some n)
    some n e h = by (first_body bytes (drop (n - 0) bytes) h)
      where
        by : Ended bytes (drop (n - 0) bytes) → Scanned bytes (Some n)
        by (body, is, body_is) = (body, drop (n - 0) bytes, body_is, is, place)
          where
            -- the end's place, by what is left
            place : n ≡ length body + 1
            place =
                let whole = ap length is ∙ length-append body (47 ∷ drop (n - 0) bytes) in
                let rest = length-drop (n - 0) bytes in
                let high = block_to bytes 0 Other n e in
                omega arith

    by : (end : Option ℕ) → block_end 0 Other bytes ≡ end → Finds bytes (left 0 bytes end) → Scanned bytes end
    by None e h = no_body bytes h
    by (Some n) e h = some n e h
