-- What goes along an axis.
pub mod Axes
pub mod Along
