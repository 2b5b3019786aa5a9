-- What a loop over things that come keeps.
use Rattle.std.specs.Prelude.{◌≡◌, ℕ, List}
use Rattle.std.proofs.Common.{drop}
use Rattle.solve_laws.specs.Annotation.Listing.{Course, Listing, all_come}
use Rattle.solve_laws.specs.Certificates.Coming.{Task}
use Rattle.post_gen.specs.Conditions.{IsListing}

-- what comes of all is what comes of those from the place on, to what is listed by now, which is well formed
pub record ComesUpTo (task : Task) {A : Type 0} (comes : A → Listing → Course) (things : List A) (place : ℕ)
    (first now : Listing) : Type 0 where
  pub whole : all_come comes things first ≡ all_come comes (drop place things) now
  pub listing : IsListing task now
