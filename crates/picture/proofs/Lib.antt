-- `Marking`: the plot's marks. `Walking`: a text read from the front. `Escaping`: how long a title is in XML. `Titles`:
-- titles, and texts that are none.
pub mod Marking
pub mod Walking
pub mod Escaping
pub mod Titles
