-- The laws, in the order in which they rest on each other.
-- a run that has ended, along the bound and apart from it
pub mod BoundEnd
-- the last running thread runs to its end
pub mod RunOut
