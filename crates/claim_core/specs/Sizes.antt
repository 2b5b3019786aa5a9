-- For which keys a job may be asked.
use Rattle.shape_data.specs.declared.answer.Key.{Key}
use Rattle.shape_data.specs.Sizes.{HasKeySizes}
use Rattle.shape_data.specs.WellFormed.{IsStorableKey}

-- the key is within the limits of a store, and of the sizes below which its answer is so too
pub record IsJobKey (key : Key) : Type 0 where
  pub storable : IsStorableKey key
  pub sizes : HasKeySizes key
