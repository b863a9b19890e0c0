-- What the contracts of this crate speak of: PID actions among listed pairs, what tables read and
-- what a plan of them orders, and what readings by tables keep.
pub mod Kits
pub mod Pids
pub mod Planned
pub mod Sides
pub mod internal
