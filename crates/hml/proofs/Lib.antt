-- Theorems about the theory's definitions, in reading order.

-- tools: what it is for a test to decide a statement; lists
pub mod Tests
pub mod Lists
-- the test decides the meaning
pub mod Agreement
-- two systems side by side, real steps, joining, and all splittings
pub mod Composition
pub mod Real
pub mod Joins
pub mod Splits
pub mod Distinct
-- elements of a list by their numbers, and the splitting of a number
pub mod Indexed
pub mod Numbered
-- theorem 1: the quotient keeps the verdict, for two machines and for a line of any number
pub mod Quotients
pub mod Theorem
pub mod Bounds
pub mod Window
pub mod NewestSteps
pub mod Line
-- a machine beside one that never moves: the verdict on its run is the joint one
pub mod Alone
-- formulas that look at no longer run
pub mod Past
-- formulas as bytes
pub mod Spelling
-- the published case that stops an edit which no theorem here stops
pub mod Cases
pub mod Clauses
