-- Both memory models have the laws of one.
pub mod ModelLaws
-- what a call says before the list's own answers is small
pub mod SmallRefusals
