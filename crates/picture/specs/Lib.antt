-- `Plot`: what stands in a column of the plot at a row. `Svg`: how many pieces the svg has. `Text`: lengths in
-- XML. `Title`: which bytes are a title. `Promises`: the lengths that are promised.
pub mod Plot
pub mod Svg
pub mod Text
pub mod Title
pub mod Promises
