-- What a session prints (docs/SPEC.md, "Sessions"): the text of a report kept for the next report, and the whole session. The line of
-- an opening and of a step is crate session's (specs/steps/Lines.antt).
-- Here are the definitions that its contracts cite, by module. Assumes nothing.
--
-- whole  a whole session on bytes is the session of the definitions: statements and proofs only
-- turns  one step and the text of its line, with a report's text kept

pub mod whole
pub mod turns
