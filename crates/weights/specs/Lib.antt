pub mod Kinds
pub mod Numbers
pub mod Sums
pub mod SumLaws
pub mod Worsts
pub mod WorstLaws
pub mod SumWorsts
pub mod SumWorstLaws
