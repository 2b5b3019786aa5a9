-- What stands of the trials of a procedure: its specs, with their certificates, in their order.
use Rattle.std.specs.Prelude.{◌≡◌, ℕ, zero, suc, ◌<◌, ◌≤◌, List, [], ◌∷◌, filter_map, length, slice_index_or, All}
use Rattle.std.specs.List.{AllZip}
use Rattle.std.specs.declared.option.Option.{Option}
use Rattle.std.specs.declared.option.Option.TheVariants.{None, Some}
use Rattle.std.proofs.Common.{refl, subst, arith}
use Rattle.std.proofs.lemmas.List.Elements.{All-cons, All-nil}
use Rattle.shape_data.specs.declared.symbolic.Cert.{Cert}
use Rattle.shape_data.specs.declared.symbolic.Spec.{Spec}
use Rattle.sound_laws.specs.Answers.{StandAt}
use Rattle.solve_laws.specs.declared.parts.Trial.{Trial}
use Rattle.solve_laws.specs.declared.parts.Trial.TheVariants.{Fell, Stands}
use Rattle.solve_laws.specs.Attempts.{cert_of, spec_of}
use Rattle.solve_laws.specs.Standing.{AllStanding}

pub standing-weaker : (P Q : Spec → Cert → Type 0) → ((spec : Spec) (cert : Cert) → P spec cert → Q spec cert) → (trials : List Trial) →
    AllStanding P trials → AllStanding Q trials
standing-weaker P Q weaker [] all = tt
standing-weaker P Q weaker (Stands spec cert ∷ trials) all = (weaker spec cert all.0, standing-weaker P Q weaker trials all.1)
standing-weaker P Q weaker (Fell why ∷ trials) all = (tt, standing-weaker P Q weaker trials all.1)

-- nothing stands
pub standing-none : (P : Spec → Cert → Type 0) (trials : List Trial) → length (filter_map spec_of trials) ≡ 0 → AllStanding P trials
standing-none P [] none = tt
standing-none P (Stands spec cert ∷ trials) none =
    absurd (let never : suc (length (filter_map spec_of trials)) ≡ 0 = none in omega (arith, never))
standing-none P (Fell why ∷ trials) none = (tt, standing-none P trials none)

-- the specs that stand
pub standing-specs : (P : Spec → Type 0) (trials : List Trial) → AllStanding (λ spec cert. P spec) trials →
    All P (filter_map spec_of trials)
standing-specs P [] all = All-nil P
standing-specs P (Stands spec cert ∷ trials) all = All-cons P spec (filter_map spec_of trials) all.0 (standing-specs P trials all.1)
standing-specs P (Fell why ∷ trials) all = standing-specs P trials all.1

-- their certificates
pub standing-certs : (P : Cert → Type 0) (trials : List Trial) → AllStanding (λ spec cert. P cert) trials →
    All P (filter_map cert_of trials)
standing-certs P [] all = All-nil P
standing-certs P (Stands spec cert ∷ trials) all = All-cons P cert (filter_map cert_of trials) all.0 (standing-certs P trials all.1)
standing-certs P (Fell why ∷ trials) all = standing-certs P trials all.1

-- each spec beside its certificate
pub standing-both : (P : Spec → Cert → Type 0) (trials : List Trial) → AllStanding P trials → (at : ℕ) (spec : Spec) (cert : Cert) →
    StandAt (filter_map spec_of trials) (filter_map cert_of trials) at spec cert → P spec cert
standing-both P [] all at spec cert stand = let never : ◌≡◌ {A = Option Spec} None (Some spec) = stand.0 in cc
standing-both P (Fell why ∷ trials) all at spec cert stand = standing-both P trials all.1 at spec cert stand
standing-both P (Stands one its ∷ trials) all zero spec cert stand =
    let same : one ≡ spec = let is : ◌≡◌ {A = Option Spec} (Some one) (Some spec) = stand.0 in cc in
    let alike : its ≡ cert = let is : ◌≡◌ {A = Option Cert} (Some its) (Some cert) = stand.1 in cc in
    subst (P spec) alike (subst (λ it. P it its) same all.0)
standing-both P (Stands one its ∷ trials) all (suc at) spec cert stand = standing-both P trials all.1 at spec cert stand

-- one certificate for each spec, and no more than there are trials
pub standing-one_each : (trials : List Trial) → length (filter_map cert_of trials) ≡ length (filter_map spec_of trials)
standing-one_each [] = refl
standing-one_each (Stands spec cert ∷ trials) = let same = standing-one_each trials in omega (arith, same)
standing-one_each (Fell why ∷ trials) = standing-one_each trials

pub standing-few : (trials : List Trial) → length (filter_map spec_of trials) ≤ length trials
standing-few [] = omega arith
standing-few (Stands spec cert ∷ trials) = let few = standing-few trials in omega (arith, few)
standing-few (Fell why ∷ trials) = let few = standing-few trials in omega (arith, few)

-- ---- two lists, one beside the other

module _ {A B : Type 0} where
  pub zip-weaker : (P Q : A → B → Type 0) → ((one : A) (other : B) → P one other → Q one other) → (ones : List A) (others : List B) →
      AllZip P ones others → AllZip Q ones others
  zip-weaker P Q weaker [] [] all = tt
  zip-weaker P Q weaker [] (other ∷ others) all = absurd all
  zip-weaker P Q weaker (one ∷ ones) [] all = absurd all
  zip-weaker P Q weaker (one ∷ ones) (other ∷ others) all = (weaker one other all.0, zip-weaker P Q weaker ones others all.1)

  pub zip-length : (P : A → B → Type 0) (ones : List A) (others : List B) → AllZip P ones others → length others ≡ length ones
  zip-length P [] [] all = refl
  zip-length P [] (other ∷ others) all = absurd all
  zip-length P (one ∷ ones) [] all = absurd all
  zip-length P (one ∷ ones) (other ∷ others) all = let same = zip-length P ones others all.1 in omega (arith, same)

  pub zip-at : (P : A → B → Type 0) (ones : List A) (others : List B) → AllZip P ones others → (place : ℕ) (one : A) (other : B) →
      place < length ones →
      P (slice_index_or ones place one) (slice_index_or others place other)
  zip-at P [] others all place one other within = absurd (omega (arith, within))
  zip-at P (first ∷ ones) [] all place one other within = absurd all
  zip-at P (first ∷ ones) (second ∷ others) all zero one other within = all.0
  zip-at P (first ∷ ones) (second ∷ others) all (suc place) one other within =
      zip-at P ones others all.1 place one other (omega (arith, within))

  pub zip-stand : (P : A → B → Type 0) (ones : List A) (others : List B) → AllZip P ones others → (place : ℕ) (one : A) (other : B) →
      StandAt ones others place one other → P one other
  zip-stand P [] others all place one other stand = let never : ◌≡◌ {A = Option A} None (Some one) = stand.0 in cc
  zip-stand P (first ∷ ones) [] all place one other stand = absurd all
  zip-stand P (first ∷ ones) (second ∷ others) all zero one other stand =
      let same : first ≡ one = let is : ◌≡◌ {A = Option A} (Some first) (Some one) = stand.0 in cc in
      let alike : second ≡ other = let is : ◌≡◌ {A = Option B} (Some second) (Some other) = stand.1 in cc in
      subst (P one) alike (subst (λ it. P it second) same all.0)
  zip-stand P (first ∷ ones) (second ∷ others) all (suc place) one other stand = zip-stand P ones others all.1 place one other stand

  pub zip-others : (P : B → Type 0) (ones : List A) (others : List B) → AllZip (λ one other. P other) ones others → All P others
  zip-others P [] [] all = All-nil P
  zip-others P [] (other ∷ others) all = absurd all
  zip-others P (one ∷ ones) [] all = absurd all
  zip-others P (one ∷ ones) (other ∷ others) all = All-cons P other others all.0 (zip-others P ones others all.1)
