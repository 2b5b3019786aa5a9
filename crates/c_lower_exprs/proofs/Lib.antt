mod Stacking
mod SlotsOfNames
mod Beginning
mod Loading
mod Operating
mod Weights
mod Arguing
mod Chaining
