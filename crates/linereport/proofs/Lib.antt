-- Lemmas on questions, on the report and on what its frames are answered.
mod Questions
mod OneReport
mod Accounting
mod Telling
mod KeyTelling
