-- What a page holds, the lines of a report, and the totals.
pub mod Pages
pub mod Lines
pub mod Counting
