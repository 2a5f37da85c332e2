-- Lines and fields: what the bytes of a text are before anybody asks what they tell.
pub mod Lines
pub mod Readings
pub mod Numbers
pub mod Rows
pub mod KeptLines
pub mod LineReadings
pub mod Laws
-- How this crate goes through the bytes of a line and the lines of a text.
pub mod Scans
pub mod ReadingCodes
