-- [cases] The cases worked by hand as one table, and one claim about the definitions.
pub mod Table
pub mod Worked
