-- Keys are told apart by the exact test, and equal ones are hashed alike.
use Rattle.std.proofs.Common.{◌≡◌, true, ap}
use Rattle.std.specs.Cmp.{IsEquivalence, decided}
use Rattle.std.specs.Hash as fed
use Rattle.shape_data.specs.declared.answer.Key.{Key}
use Rattle.component_keys.specs.Tests.{key_test}
use Rattle.loaded_answers.specs.Lookup.{first_name}
use Rattle.loaded_answers.specs.declared.keys.SoughtKey.{SoughtKey}

pub entry_keys : IsEquivalence key_test.0
entry_keys = decided key_test.0 key_test.1

pub sought_keys : IsEquivalence (λ (one other : SoughtKey). key_test.0 one.key.now other.key.now)
sought_keys = record {
  refl = λ one. entry_keys.refl one.key.now;
  symm = λ one other. entry_keys.symm one.key.now other.key.now;
  congr = λ one other third. entry_keys.congr one.key.now other.key.now third.key.now;
}

abbrev name_fed : Key → fed.HashWrites
name_fed key = fed.slice fed.u8 (first_name key.procs)

pub fed_alike : (one other : Key) → key_test.0 one other ≡ true → name_fed one ≡ name_fed other
fed_alike one other same = ap name_fed ((key_test.1 one other).0 same)
