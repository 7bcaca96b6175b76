-- The laws.
-- what count and violation answer with a lent scratch, and leave in it
pub mod LentCalls
