-- The reader's own forms, line by line and word by word, which its private contracts cite. What a script means is said in
-- `Script` and `Grammar`, and lemmas show that these agree with it.
pub mod Asked
pub mod Draws
pub mod Lines
pub mod Verb
pub mod Walk
