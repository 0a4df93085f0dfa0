-- What each call answers and leaves, for every state, line, id and buffer; and what is demanded of lists of calls. Beside the definitions
-- of `semantics` the contracts name, from the specs of the crates below: what a struct stands for (`network`), which bytes of it an edit
-- writes (`editing`) and what a line leaves of it (`performing`), what is believed (`support`), and the refusals' numbers (`refusals`).
pub mod Calls
pub mod Lists
pub mod Demands
pub mod Texts
pub mod Tallies
