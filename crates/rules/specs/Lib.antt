-- Every definition, in the order of document 01.

-- what all of them use: a choice by a test, the limits, the numbers of answers, texts as bytes
pub mod Choice
pub mod Limits
pub mod Numbers
pub mod Text
-- the sheet: its lines, their fields and frames, the stages that they lead through
pub mod Fields
pub mod Lines
pub mod Frames
pub mod Stages
-- a weighed sample: rounding, the exact number of a float's bits, two weights to X, and what is shown of every one
pub mod Rounding
pub mod Floats
pub mod Weights
pub mod Weighing
-- the tally: lot and card, the map from container to X, the ledger and its five steps
pub mod Cards
pub mod Contents
pub mod Ledger
-- H, R and the report: what each attribute carries, the figures and verdicts, the ends of the range, which rows the printed mean
-- gains, what bounds H, the five lines
pub mod Attributes
pub mod Figures
pub mod Range
pub mod Rows
pub mod Spread
pub mod Report
-- a sheet read and written
pub mod Reading
pub mod Writing
-- a comma list: decimal numbers, a list read into a ledger, and written
pub mod Decimals
pub mod ListReading
pub mod ListWriting
-- calls on a sheet, and what lotreport, lotlist and lotenter print
pub mod OnSheets
pub mod Printing
-- beside the tally: primary samples, tables 14G and 14H, mixing
pub mod Sampling
pub mod Tolerance
pub mod Mixing
