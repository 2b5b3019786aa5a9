-- Listings only grow: what is listed stays, and what is listed anew waits for its turn.
use Rattle.std.specs.Prelude.{◌≡◌, ◌⊎◌, ℕ, ◌+◌, ◌<◌, ◌≤◌, List, [], ◌∷◌, ◌++◌, length, slice_index_or, Contains}
use Rattle.std.proofs.Common.{refl, sym, ap, ◌∙◌, subst, arith, inl, inr, ⊎_elim}
use Rattle.std.proofs.lemmas.Bool.{cases_eq, cases_lt}
use Rattle.std.proofs.lemmas.List.{get_or-set_other, get_or-set_same, length-append, length-set, set_past}
use Rattle.std.proofs.lemmas.List.Elements.{All-set, Contains-append_left, Contains-push, Contains-push_cases}
use Rattle.shape_data.specs.declared.symbolic.Cert.{Cert}
use Rattle.shape_data.specs.declared.symbolic.Post.{Post}
use Rattle.shape_data.specs.declared.symbolic.SymState.{SymState}
use Rattle.solve_laws.specs.Certificates.Coverings.{IsCovered, IsPostCovered}
use Rattle.solve_laws.specs.Annotation.Laws.{IsSmallCert}
use Rattle.solve_laws.specs.Annotation.Listing.{Listing, MOST_STATES, listed_at, with_exit, with_state}

-- all that is listed, as a certificate
abbrev pub cert_of : Listing → Cert
cert_of listing = record { nodes = listing.nodes; exits = listing.exits }

-- each listed state of a node stays listed there, and each exit; there are as many nodes, and what is small stays so
pub record Grows (from to : Listing) : Type 0 where
  pub one_each : length to.nodes ≡ length from.nodes
  pub states : (at : ℕ) (state : SymState) → Contains (listed_at at from) state → Contains (listed_at at to) state
  pub exits : (exit : Post) → Contains from.exits exit → Contains to.exits exit
  pub small : IsSmallCert (cert_of from) → IsSmallCert (cert_of to)

-- and what waits goes on to wait; what is listed anew waits
pub record Leads (from to : Listing) : Type 0 where
  pub grows : Grows from to
  pub waits : (item : ℕ × SymState) → Contains from.queue item → Contains to.queue item
  pub news : (at : ℕ) (state : SymState) → Contains (listed_at at to) state →
      Contains (listed_at at from) state ⊎ Contains to.queue (at, state)

pub grows-refl : (listing : Listing) → Grows listing listing
grows-refl listing = record { one_each = refl; states = λ at state is. is; exits = λ exit is. is; small = λ small. small }

pub grows-trans : (from mid to : Listing) → Grows from mid → Grows mid to → Grows from to
grows-trans from mid to first second = record {
  one_each = second.one_each ∙ first.one_each;
  states = λ at state is. second.states at state (first.states at state is);
  exits = λ exit is. second.exits exit (first.exits exit is);
  small = λ small. second.small (first.small small);
}

pub leads-refl : (listing : Listing) → Leads listing listing
leads-refl listing = record { grows = grows-refl listing; waits = λ item is. is; news = λ at state is. inl is }

pub leads-trans : (from mid to : Listing) → Leads from mid → Leads mid to → Leads from to
leads-trans from mid to first second = record {
  grows = grows-trans from mid to first.grows second.grows;
  waits = λ item is. second.waits item (first.waits item is);
  news =
      λ at state is. ⊎_elim (λ there. ⊎_elim inl (λ waits. inr (second.waits (at, state) waits)) (first.news at state there)) inr
      (second.news at state is);
}

-- what is covered stays covered
pub covered-grows : (from to : Listing) → Grows from to → (at : ℕ) (state : SymState) → IsCovered (listed_at at from) state →
    IsCovered (listed_at at to) state
covered-grows from to grows at state is = (is.0, grows.states at is.0 is.1, is.2)

pub exit-covered-grows : (from to : Listing) → Grows from to → (exit : Post) → IsPostCovered from.exits exit → IsPostCovered to.exits exit
exit-covered-grows from to grows exit is = (is.0, grows.exits is.0 is.1, is.2)

-- one more is no more than the most
one-more : {A : Type 0} (things : List A) (thing : A) → length things < MOST_STATES → length (things ++ thing ∷ []) ≤ MOST_STATES
one-more things thing few =
    let both : length (things ++ thing ∷ []) ≡ length things + 1 = length-append things (thing ∷ []) in omega (arith, few, both)

-- ---- a state is listed

module _ (node : ℕ) (state : SymState) (from : Listing) where
  listed-here : node < length from.nodes → listed_at node (with_state node state from) ≡ listed_at node from ++ state ∷ []
  listed-here within = get_or-set_same from.nodes node (listed_at node from ++ state ∷ []) [] within

  -- what is listed at a node is as it was, or has the state more
  listed-after : (at : ℕ) →
      (listed_at at (with_state node state from) ≡ listed_at at from)
      ⊎ ((node ≡ at) × (listed_at at (with_state node state from) ≡ listed_at at from ++ state ∷ []))
  listed-after at = ⊎_elim here other (cases_eq at node)
    where
      here : at ≡ node →
          (listed_at at (with_state node state from) ≡ listed_at at from)
          ⊎ ((node ≡ at) × (listed_at at (with_state node state from) ≡ listed_at at from ++ state ∷ []))
      here same =
          ⊎_elim (λ within. inr (
            sym same,
            subst (λ place. listed_at place (with_state node state from) ≡ listed_at place from ++ state ∷ []) (sym same)
                (listed-here within),
          ))
          (λ beyond. inl (ap (λ nodes. slice_index_or nodes at []) (set_past from.nodes node (listed_at node from ++ state ∷ []) beyond)))
          (cases_lt node (length from.nodes))

      other : (at ≡ node → ⊥) →
          (listed_at at (with_state node state from) ≡ listed_at at from)
          ⊎ ((node ≡ at) × (listed_at at (with_state node state from) ≡ listed_at at from ++ state ∷ []))
      other differ = inl (get_or-set_other from.nodes node at (listed_at node from ++ state ∷ []) [] differ)

  states-grow : (at : ℕ) (one : SymState) → Contains (listed_at at from) one → Contains (listed_at at (with_state node state from)) one
  states-grow at one is =
      ⊎_elim (λ same. subst (λ all. Contains all one) (sym same) is)
      (λ more. subst (λ all. Contains all one) (sym more.1) (Contains-append_left (listed_at at from) (state ∷ []) one is))
      (listed-after at)

  states-new : (at : ℕ) (one : SymState) → Contains (listed_at at (with_state node state from)) one →
      Contains (listed_at at from) one ⊎ Contains (from.queue ++ (node, state) ∷ []) (at, one)
  states-new at one is = ⊎_elim (λ same. inl (subst (λ all. Contains all one) same is)) grown (listed-after at)
    where
      grown : (node ≡ at) × (listed_at at (with_state node state from) ≡ listed_at at from ++ state ∷ []) →
          Contains (listed_at at from) one ⊎ Contains (from.queue ++ (node, state) ∷ []) (at, one)
      grown (there, more) =
          ⊎_elim inl (λ it. inr
          (subst (λ (item : ℕ × SymState). Contains (from.queue ++ (node, state) ∷ []) item) (λ i. (there i, it i))
          (Contains-push from.queue (node, state))))
          (Contains-push_cases (listed_at at from) state one (subst (λ all. Contains all one) more is))

  pub state-leads : length (listed_at node from) < MOST_STATES → Leads from (with_state node state from)
  state-leads few = record {
    grows = record {
      one_each = length-set from.nodes node (listed_at node from ++ state ∷ []);
      states = states-grow;
      exits = λ exit is. is;
      small = λ small. record {
        nodes =
            All-set (λ (states : List SymState). length states ≤ MOST_STATES) from.nodes node (listed_at node from ++ state ∷ [])
            (one-more (listed_at node from) state few) small.nodes;
        exits = small.exits;
      };
    };
    waits = λ item is. Contains-append_left from.queue ((node, state) ∷ []) item is;
    news = states-new;
  }

  -- it is there now, if its node is
  pub state-is-there : node < length from.nodes → Contains (listed_at node (with_state node state from)) state
  state-is-there within = subst (λ all. Contains all state) (sym (listed-here within)) (Contains-push (listed_at node from) state)

-- ---- an exit is listed

pub exit-leads : (post : Post) (from : Listing) → length from.exits < MOST_STATES → Leads from (with_exit post from)
exit-leads post from few = record {
  grows = record {
    one_each = refl;
    states = λ at state is. is;
    exits = λ exit is. Contains-append_left from.exits (post ∷ []) exit is;
    small = λ small. record { nodes = small.nodes; exits = one-more from.exits post few };
  };
  waits = λ item is. is;
  news = λ at state is. inl is;
}
