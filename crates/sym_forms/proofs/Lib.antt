pub mod CountLaws
pub mod FormNormalLaws
pub mod PairFormLaws
pub mod PlacedLaws
pub mod RenamedLaws
pub mod SortedLaws
pub mod WellFormedLaws
