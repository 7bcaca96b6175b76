-- What a reader of this crate must believe, in reading order.
-- outcomes under any memory model, and one program under one model against another under another
pub mod Under
-- whether two outcomes are the same, and whether a schedule has one
pub mod Same
-- programs that show nothing new under total store order
pub mod Robust
-- what the call over one file answers
pub mod RobustCall
-- and what its word says
pub mod RobustWord
-- what the call over two files, each under a model of its own, answers
pub mod ModelsCall
