pub mod Accepted
pub mod ApicLists
pub mod Counted
pub mod IsaList
pub mod StrictLists
pub mod TimerLists
